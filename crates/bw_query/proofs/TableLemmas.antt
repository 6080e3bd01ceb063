-- Groups of rows that an answer takes.
use Rattle.std.proofs.Common.{◌≡◌, ◌∙◌, ℕ, ◌+◌, List, [], ◌∷◌, ◌++◌, refl, sym, ap, subst}
use Rattle.std.proofs.Common.{append_assoc, arith}
use Rattle.std.specs.List.{sum_by}
use Rattle.std.proofs.lemmas.List.{append-nil}
use Rattle.std.proofs.lemmas.List.Sums.{sum_by-append}
use Rattle.bw_model.specs.Groups.{together}
use Rattle.bw_model.specs.Row.{Value}
use Rattle.bw_answer.specs.Progress.{GoesOver, IsOver}
use Rattle.bw_answer.specs.declared.answer.Answer.{Answer}
use Rattle.bw_file.proofs.MemoryAnswers.{together_more}

-- an answer that takes nothing
pub goes_nowhere : (answer : Answer) → GoesOver answer [] answer
goes_nowhere answer = record {
  same = refl;
  covers = λ names query before over. subst (λ (rows : List (List Value)). IsOver names query rows answer) (sym (append-nil before)) over;
}

pub goes_on : (start old new : Answer) (groups : List (List (List Value))) (rows : List (List Value)) → GoesOver start (together groups) old → GoesOver old rows new
    → GoesOver start (together (groups ++ rows ∷ [])) new
goes_on start old new groups rows first next = record {
  same = next.same ∙ first.same;
  covers = λ names query before over.
      let then : IsOver names query ((before ++ together groups) ++ rows) new = next.covers names query (before ++ together groups) (first.covers names query before over) in
      subst (λ (those : List (List Value)). IsOver names query those new)
      (append_assoc before (together groups) rows ∙ ap (λ (l : List (List Value)). before ++ l) (sym (together_more groups rows))) then;
}

-- a count over the groups so far, and over one more
pub one_more : (count : List (List Value) → ℕ) (groups : List (List (List Value))) (rows : List (List Value)) (so_far next : ℕ)
    → so_far ≡ sum_by count groups → next ≡ count rows → so_far + next ≡ sum_by count (groups ++ rows ∷ [])
one_more count groups rows so_far next is more =
    let all = sum_by-append count groups (rows ∷ []) in
    omega (arith, is, more, all)
