-- What is read is spelled, and what is spelled is read.
use Rattle.std.proofs.Common.{◌∙◌}
use Rattle.bw_model.specs.declared.query.Query.{Query}
use Rattle.bw_model.proofs.SameLemmas.{names_within-tree_of, is_whole-tree_of}
use Rattle.bw_sql.proofs.Texts.{only_memory, parsed}
use Rattle.bw_sql.proofs.Within.{if_good}
use Rattle.bw_sql.proofs.parse.Goals as goal

pub returns : goal.returns
returns c =
    let read = parsed c.args.schema.now c.args.text.now c.read.result c.read.ensures.too_long c.read.ensures.exact in
    let if_read = λ (P : Query → Type 0). if_good c.args.schema.now c.args.text.now c.read.result P read in
    record {
      read = read;
      refused = only_memory c.args.schema.now c.args.text.now c.read.result c.read.ensures.exact;
      too_long = c.read.ensures.too_long;
      columns = if_read _ (λ query good. names_within-tree_of _ query.cond ∙ good.within);
      whole = if_read _ (λ query good. is_whole-tree_of query.cond ∙ good.whole);
      items = if_read _ (λ query good. good.items);
      nonempty = if_read _ (λ query good. good.nonempty);
      kinds = if_read _ (λ query good. good.kinds);
      fault = c.read.ensures.fault;
    }
