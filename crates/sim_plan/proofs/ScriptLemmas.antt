-- Lines as a text, piece by piece.
use Rattle.std.proofs.Common.{◌≡◌, ℕ, List, ◌++◌, Result, IfOk, string_bytes, sym, ap, ◌∙◌, append_assoc}
use Rattle.std.proofs.lemmas.Grind.{flat_map-append}
use Rattle.std.proofs.lemmas.Result.{IfOk-weaker}
use Rattle.std.specs.Prelude.{String, codes, decimal}
use Rattle.sim_plan.specs.FaultScript.{text_of}

-- the text of lines in three parts
pub text_of-parts : (a b c : List (List ℕ)) → text_of ((a ++ b) ++ c) ≡ text_of a ++ (text_of b ++ text_of c)
text_of-parts a b c =
    flat_map-append (λ line. line ++ codes "\n") (a ++ b) c
    ∙ ap (λ text. text ++ text_of c) (flat_map-append (λ line. line ++ codes "\n") a b)
    ∙ append_assoc (text_of a) (text_of b) (text_of c)

-- a line that ends with a number, before other lines: as it is written, and as the lines tell it
pub numbered_line : (words : List ℕ) (number : ℕ) (others : List ℕ) → words ++ (decimal number ++ (codes "\n" ++ others)) ≡ words ++ ((decimal number ++ codes "\n") ++ others)
numbered_line words number others = ap (λ text. words ++ text) (sym (append_assoc (decimal number) (codes "\n") others))

-- the same of what a call wrote
pub wrote_numbered_line : {Z E : Type 0} (wrote : Result (String Z) E) (words : List ℕ) (number : ℕ) (others : List ℕ) → IfOk wrote (λ text. string_bytes text ≡ words ++ (decimal number ++ (codes "\n" ++ others)))
    → IfOk wrote (λ text. string_bytes text ≡ words ++ ((decimal number ++ codes "\n") ++ others))
wrote_numbered_line wrote words number others = IfOk-weaker wrote _ _ (λ text told. told ∙ numbered_line words number others)
