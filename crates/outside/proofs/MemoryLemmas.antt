-- A call that is past each of those that fail does not fail, and neither does any later one.
use Rattle.std.proofs.Common.{◌≡◌, ℕ, ◌<◌, ◌≤◌, Bool, true, false, List, ◌++◌, ◌+◌, ◌-◌, length, take, drop, ap, sym, ◌∙◌, arith}
use Rattle.std.proofs.lemmas.List.{drop-drop, length-take-le, take-append-drop}
use Rattle.std.proofs.Math.Seq.{take-append_seam}
use Rattle.std.proofs.lemmas.List.Folds.{list_any_none}
use Rattle.std.proofs.lemmas.Bool.Decides.{nat_tests}
use Rattle.std.specs.Prelude.{◌==◌}
use Rattle.outside.specs.Memory.{IsPast, is_failing}

differs : (n calls : ℕ) → n < calls → (n == calls) ≡ false
differs n calls below = grind (arith, nat_tests)

pub is_failing-past : (fails : List ℕ) (calls : ℕ) → IsPast fails calls → is_failing fails calls ≡ false
is_failing-past fails calls past = list_any_none (λ n. n == calls) fails (λ k d within. differs _ calls (past k d within))

pub past_fails_not : (fails listed : List ℕ) (calls : ℕ) (failed : Bool) → IsPast fails calls → listed ≡ fails → failed ≡ is_failing listed calls → failed ≡ true → ⊥
past_fails_not fails listed calls failed past same is set = let is_no = is_failing-past fails calls past in let e = ap (λ l. is_failing l calls) same in cc

pub IsPast-later : (fails : List ℕ) (calls later : ℕ) → calls ≤ later → IsPast fails calls → IsPast fails later
IsPast-later fails calls later up past = λ k d within. let below = past k d within in omega arith

-- what was left is the piece that a read copied, and then what is left after it
pub left-read : (bytes items copied rest left into : List ℕ) (at n : ℕ) → length copied ≡ length (take n into) → n ≤ length into → copied ≡ take (at + n - at) (drop at items) → items ≡ bytes → drop at bytes ≡ left
    → left ≡ take n (copied ++ rest) ++ drop (at + n) bytes
left-read bytes items copied rest left into at n long room is same was =
    let len : length copied ≡ n = long ∙ length-take-le n into room in
    let front : take n (copied ++ rest) ≡ copied = ap (λ k. take k (copied ++ rest)) (sym len) ∙ take-append_seam copied rest in
    let count : at + n - at ≡ n = omega arith in
    let copy : copied ≡ take n (drop at bytes) = is ∙ ap (λ k. take k (drop at items)) count ∙ ap (λ l. take n (drop at l)) same in
    sym was ∙ sym (take-append-drop n (drop at bytes)) ∙ ap (λ l. l ++ drop n (drop at bytes)) (sym (front ∙ copy)) ∙ ap (λ l. take n (copied ++ rest) ++ l) (drop-drop n at bytes)
