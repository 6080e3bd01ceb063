-- One text, and one question or error.
use Rattle.bw_laws.proofs.InMemoryLemmas.{OneVerdict, one_question, one_refusal, one_shape, one_text}
use Rattle.bw_laws.proofs.in_memory.a_table_in_memory_is_answered_as_its_file.Goals as goal

pub returns : goal.returns
returns c =
    let verdict : OneVerdict = record { accepted = c.one_verdict.ensures.none_certified; refused = c.one_verdict.ensures.fault } in
    record {
      text = one_text;
      asked = λ bytes sql layout another schema other rows others program given second one two a b.
          one_question verdict schema other (one_shape bytes layout another schema other rows others one two) sql program given second a b;
      refused = one_refusal verdict;
    }
