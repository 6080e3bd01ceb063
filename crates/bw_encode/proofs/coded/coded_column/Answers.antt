-- A column of codes has what is seen of them.
use Rattle.std.proofs.Common.{rules, ◌≡◌, ◌≤◌, ap, length, subst, sym, ◌∙◌, arith, List, ℕ}
use Rattle.std.proofs.lemmas.List.{length-map}
use Rattle.bw_encode.specs.ColumnFields.{IsContentOf}
use Rattle.bw_encode.specs.declared.column_fields.Content.TheVariants as content
use Rattle.bw_encode.specs.Dictionary.{IsEncoded}
use Rattle.bw_encode.specs.Fields.{text_under, texts_under}
use Rattle.bw_encode.proofs.CodeLemmas.{codes_range, codes_seen}
use Rattle.bw_encode.proofs.coded.coded_column.Goals as goal

pub of_codes-requires : goal.of_codes-requires
of_codes-requires c =
    let of : IsContentOf c.args.fields.now (content.Texts c.in-Texts.texts) = subst (IsContentOf c.args.fields.now) c.in-Texts.is c.content.ensures in
    let same : length c.in-Texts.texts.now ≡ length c.args.fields.now = ap (λ (fields : List (List ℕ)). length fields) of.0 in
    let size : c.len.result ≡ length c.in_ok-dictionary-in-Texts.dictionary.fields.items = search rules in
    let short = c.in_ok-dictionary-in-Texts.ensures.short in
    omega (arith, c.requires)

pub returns-in_ok-dictionary-in-Texts-clause-coded : goal.returns-in_ok-dictionary-in-Texts-clause-coded
returns-in_ok-dictionary-in-Texts-clause-coded c =
    let of : IsContentOf c.args.fields.now (content.Texts c.in-Texts.texts) = subst (IsContentOf c.args.fields.now) c.in-Texts.is c.content.ensures in
    let same : length c.in-Texts.texts.now ≡ length c.args.fields.now = ap (λ (fields : List (List ℕ)). length fields) of.0 in
    let size : c.len.result ≡ length c.in_ok-dictionary-in-Texts.dictionary.fields.items = search rules in
    let short = c.in_ok-dictionary-in-Texts.ensures.short in
    let count : c.len.result ≡ length (texts_under c.in_ok-dictionary-in-Texts.dictionary.fields.items) = size ∙ sym (length-map c.in_ok-dictionary-in-Texts.dictionary.fields.items text_under) in
    let few : c.len.result ≤ 16777216 = omega (arith, c.requires) in
    let encoded = c.in_ok-dictionary-in-Texts.ensures.encoded in
    rw c.of_codes.ensures (record {
      encoding = (of.1, subst (λ fields. IsEncoded fields (texts_under c.in_ok-dictionary-in-Texts.dictionary.fields.items) c.in_ok-dictionary-in-Texts.dictionary.counts.items c.in_ok-dictionary-in-Texts.dictionary.codes.items) of.0 encoded);
      seen = rw count (codes_seen _ _ _ _ encoded);
      range = codes_range c.len.result few;
    })
