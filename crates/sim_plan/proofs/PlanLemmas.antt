-- A plan as it is drawn, word by word.
use Rattle.std.proofs.Common.{◌≡◌, ℕ, zero, suc, ◌+◌, List, [], ◌∷◌, ◌++◌, map, sym, ap, ◌∙◌, add-one, append_assoc, refl}
use Rattle.map_model.specs.declared.calls.Call.{Call}
use Rattle.rand_core.proofs.StepsLemmas.{next_u32-stream_of}
use Rattle.rand_core.specs.Steps.{first_words, steps_u32, stream_of}
use Rattle.rand_core.specs.Stream.{Stream, next_u32}
use Rattle.rand_pcg.specs.Lcg.{Lcg}
use Rattle.rand_pcg.specs.Pcg.{pcg32}
use Rattle.sim_plan.specs.Made.{call_of}

-- the calls of so many words from a state on
abbrev pub calls_from : ℕ → Lcg → List Call
calls_from count generator = map call_of (first_words pcg32 count generator)

-- the call of the next word stands before those of the words that are left
pub one_more_call : (all made : List Call) (word left rest : ℕ) (generator next : Lcg) → all ≡ made ++ calls_from left generator → (word, next) ≡ pcg32 generator → left ≡ rest + 1 → all ≡ (made ++ call_of word ∷ []) ++ calls_from rest next
unfolding first_words
one_more_call all made word left rest generator next before drawn counted =
    before
    ∙ ap (λ n. made ++ calls_from n generator) (counted ∙ add-one rest)
    ∙ ap (λ (step : ℕ × Lcg). made ++ call_of step.0 ∷ calls_from rest step.1) (sym drawn)
    ∙ sym (append_assoc made (call_of word ∷ []) (calls_from rest next))

-- no words have no calls
pub no_calls : (generator : Lcg) → calls_from 0 generator ≡ []
unfolding first_words
no_calls generator = refl

-- words drawn from a state are words drawn from the stream that it stands for
pub first_words-stream_of : (count : ℕ) (generator : Lcg) → first_words pcg32 count generator ≡ first_words next_u32 count (stream_of (steps_u32 pcg32) generator)
unfolding first_words
first_words-stream_of zero generator = refl
first_words-stream_of (suc count) generator =
    ap (λ words. (pcg32 generator).0 ∷ words) (first_words-stream_of count (pcg32 generator).1)
    ∙ ap (λ (step : ℕ × Stream). step.0 ∷ first_words next_u32 count step.1) (sym (next_u32-stream_of (steps_u32 pcg32) generator))
