-- What is left after the heading is what the heading's reader has left.
use Rattle.std.proofs.Common.{◌∙◌, refl, ap, Some}
use Rattle.bw_csv.specs.Records.{records_in}
use Rattle.csv.specs.declared.parser.State.TheVariants as st
use Rattle.bw_csv.proofs.RestLemmas.{plain-readable, plain-to_come}
use Rattle.bw_csv.proofs.rest.Rest.new.Goals as goal

pub returns-clause-readable : goal.returns-clause-readable
returns-clause-readable c = plain-readable _ refl c.after_record.ensures.end

pub returns-clause-to_come : goal.returns-clause-to_come
returns-clause-to_come c =
    plain-to_come _ refl ∙ c.after_record.ensures.rest c.requires.0 _ (ap (λ text. records_in st.StartRecord (Some text)) c.after_byte_order_mark.ensures ∙ c.requires.1)
