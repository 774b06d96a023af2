-- The lines of the summary.
use Rattle.std.proofs.Common.{◌≡◌, ℕ, zero, suc, ◌+◌, ◌<◌, ◌≤◌, List, [], ◌∷◌, ◌++◌, length, map, take, get_or, refl, sym, ap, ◌∙◌, append_assoc, append-nil, add-one, arith}
use Rattle.std.specs.Prelude.{codes}
use Rattle.std.specs.Fmt.{decimal}
use Rattle.std.proofs.Math.Seq.{take-suc}
use Rattle.std.proofs.lemmas.List.{map-append}
use Rattle.std.specs.List.{flat_map}
use Rattle.std.specs.Global.{Vec}
use Rattle.machine_world.specs.Ledger.{history_of}
use Rattle.machine_world.specs.Readings.{division_of}
use Rattle.machine_world.specs.World.{World}
use Rattle.machine_world.specs.declared.parts.Division.{Division}
use Rattle.script_text.specs.OutputText.{line_text, spaced}
use Rattle.script_text.specs.declared.out_lines.OutLine.TheVariants as out
use Rattle.sim_meaning.specs.Driver.{returned_in}
use Rattle.sim_meaning.specs.Summary.{counted, head_words, open_in, summary_text, values_after, words_text}
use Rattle.sim_meaning.specs.declared.numbers.Numbers.{Numbers}

spaced-append : (words more : List (List ℕ)) → spaced (words ++ more) ≡ spaced words ++ spaced more
spaced-append [] more = refl
spaced-append (word ∷ words) more =
    ap (λ rest. codes " " ++ word ++ rest) (spaced-append words more)
    ∙ ap (λ rest. codes " " ++ rest) (sym (append_assoc word (spaced words) (spaced more)))
    ∙ sym (append_assoc (codes " ") (word ++ spaced words) (spaced more))

-- one more number behind a name and numbers
pub spaced-more : (numbers : List ℕ) (i number : ℕ) (name : List ℕ) → i < length numbers → number ≡ get_or numbers i 0
    → name ++ spaced (map decimal (take (i + 1) numbers)) ≡ ((name ++ spaced (map decimal (take i numbers))) ++ codes " ") ++ decimal number
spaced-more numbers i number name within is =
    ap (λ ns. name ++ spaced (map decimal ns)) (take-one numbers i number within is)
    ∙ ap (λ words. name ++ spaced words) (map-append decimal (take i numbers) (number ∷ []))
    ∙ ap (λ text. name ++ text) (spaced-append (map decimal (take i numbers)) (decimal number ∷ []))
    ∙ ap (λ text. name ++ (spaced (map decimal (take i numbers)) ++ (codes " " ++ text))) (append-nil (decimal number))
    ∙ sym (append_assoc name (spaced (map decimal (take i numbers))) (codes " " ++ decimal number))
    ∙ sym (append_assoc (name ++ spaced (map decimal (take i numbers))) (codes " ") (decimal number))
  where
    take-one : (xs : List ℕ) (at x : ℕ) → at < length xs → x ≡ get_or xs at 0 → take (at + 1) xs ≡ take at xs ++ x ∷ []
    take-one xs at x inside same = rw add-one (take-suc xs at 0 inside ∙ ap (λ y. take at xs ++ y ∷ []) (sym same))

-- The texts of the lines, one after the other.

pub lines-text : (numbers : Numbers) (world : World) (verbs returned opened keys : ℕ) (division : Division) (a b c d e f g h : Vec ℕ)
    → returned ≡ returned_in world → opened ≡ open_in world → keys ≡ values_after (history_of world) → division ≡ division_of world
    → a.items ≡ words_text (head_words numbers)
    → b.items ≡ words_text (counted (codes "returned") (returned ∷ []))
    → c.items ≡ words_text (counted (codes "open") (opened ∷ []))
    → d.items ≡ words_text (counted (codes "verbs") (verbs ∷ []))
    → e.items ≡ line_text (out.Blocks division.unused division.owned division.awaiting division.released)
    → f.items ≡ line_text (out.Objects division.stock division.present division.held)
    → g.items ≡ words_text (counted (codes "keys") (keys ∷ []))
    → h.items ≡ line_text out.End
    → flat_map (λ (text : Vec ℕ). text.items) (a ∷ b ∷ c ∷ d ∷ e ∷ f ∷ g ∷ h ∷ []) ≡ summary_text numbers world verbs
lines-text numbers world verbs returned opened keys division a b c d e f g h is_returned is_open is_keys is_division ta tb tc td te tf tg th =
    (λ i. ta i ++ (tb i ++ (tc i ++ (td i ++ (te i ++ (tf i ++ (tg i ++ (th i ++ []))))))))
    ∙ (λ i. all (is_returned i) (is_open i) (is_keys i) (is_division i))
  where
    all : ℕ → ℕ → ℕ → Division → List ℕ
    all returned opened keys division =
        words_text (head_words numbers)
        ++ (words_text (counted (codes "returned") (returned ∷ []))
        ++ (words_text (counted (codes "open") (opened ∷ []))
        ++ (words_text (counted (codes "verbs") (verbs ∷ []))
        ++ (line_text (out.Blocks division.unused division.owned division.awaiting division.released)
        ++ (line_text (out.Objects division.stock division.present division.held)
        ++ (words_text (counted (codes "keys") (keys ∷ [])) ++ (line_text out.End ++ [])))))))

pub taken-all : {X : Type 0} (xs : List X) (i : ℕ) → length xs ≤ i → take i xs ≡ xs
taken-all [] zero past = refl
taken-all [] (suc i) past = refl
taken-all (x ∷ xs) zero past = absurd (omega arith)
taken-all (x ∷ xs) (suc i) past = ap (λ rest. x ∷ rest) (taken-all xs i (omega arith))
