-- What a client's next verb may bring into the past, made ready before the verb is taken.
use Rattle.std.specs.Prelude.{◌≡◌, ℕ, ◌*◌, ◌<◌, ◌⊎◌, Bool, true, false, not, ◌&&◌, ◌==◌, if◌then◌else◌, List, [], ◌∷◌, length, Option, Some, None}
use Rattle.std.specs.Option.{option_map_or}
use Rattle.kv_ops.specs.Ahead.{is_ending}
use Rattle.machine.specs.declared.client_call.Step.{Step}
use Rattle.machine.specs.declared.client_call.Step.TheVariants as step
use Rattle.machine.specs.Client.{own_object}
use Rattle.machine.specs.ObjectNames.{IsObject}
use Rattle.machine.specs.Stage.{Client}
use Rattle.machine_world.specs.Calls.{reply_of}
use Rattle.machine_world.specs.Ledger.{Caller, with_decision}
use Rattle.machine_world.specs.Readings.{deciding_word, is_in_stock}
use Rattle.machine_world.specs.World.{Ledger}
use Rattle.map_model.specs.Trace.{Moment, Returned}
use Rattle.region_view.specs.Sizes.{Sizes}
use Rattle.verb_words.specs.declared.verbs.Place.{Place}
use Rattle.verb_history.specs.Moments.{moment_of}
use Rattle.world_core.specs.declared.dues.Decision.{Decision}
use Rattle.world_core.specs.declared.dues.Returning.{Returning}
use Rattle.world_ledger.specs.Kept.{HasDecisionRoom, Kept, has_rank_if}
use Rattle.world_ledger.specs.Returns.{returned_of, with_returned}
use Rattle.world_ledger.specs.Seen.{may_bear_on_stock}

-- the decision by a final swap of this slot to this word, of the caller's call
abbrev pub decision_by : Caller → ℕ × ℕ → Decision
decision_by caller swap = record { slot = swap.0; fresh = swap.1; caller = caller }

abbrev pub decision_for : Caller → Option (ℕ × ℕ) → Option Decision
decision_for caller swap = option_map_or (λ of_slot. Some (decision_by caller of_slot)) swap None

-- the return that a client's next verb may bring
abbrev pub IsReturning : Client → Option Returning → Type 0
IsReturning client None = is_ending client.stage ≡ false
IsReturning client (Some returning) =
    (is_ending client.stage ≡ true)
    × (returning.returned ≡ returned_of client client.outcome)
    × (moment_of returning.moment ≡ Returned client.client client.number (reply_of client client.outcome))

-- there is room for the decision, if there is one
abbrev pub HasRoomToDecide : Kept → Option Decision → Type 0
HasRoomToDecide kept None = Unit {0}
HasRoomToDecide kept (Some decision) = HasDecisionRoom kept decision.slot

-- the slot that is to be decided is one of those of which decisions are kept
abbrev pub HasSlot : Ledger → Option Decision → Type 0
HasSlot ledger None = Unit {0}
HasSlot ledger (Some decision) = decision.slot < length ledger.decided

-- the slot that is to be decided is one of the index
abbrev pub IsOfIndex : Sizes → Option Decision → Type 0
IsOfIndex sizes None = Unit {0}
IsOfIndex sizes (Some decision) = decision.slot < 24 * sizes.groups

-- the winner that has beaten the call, if there is one, has a rank left for it
abbrev pub HasRankToReturn : Ledger → Option Returning → Type 0
HasRankToReturn ledger None = Unit {0}
HasRankToReturn ledger (Some returning) = has_rank_if ledger returning.returned.beaten ≡ true

-- the client's call has chosen no object, or one of the pool
abbrev pub OwnsNoneOrOne : Sizes → Client → Type 0
OwnsNoneOrOne sizes client = (client.object ≡ 0) ⊎ IsObject sizes (own_object client)

-- whether the bit of the chosen object is set on the primary
abbrev pub has_own_in_stock : Sizes → List (List ℕ) → Client → Bool
has_own_in_stock sizes nodes client = if client.object == 0 then false else is_in_stock sizes nodes (own_object client)

-- whether a verb that goes to this place may change that
abbrev pub may_take : Sizes → Client → Place → Bool
may_take sizes client place = if client.object == 0 then false else may_bear_on_stock sizes client.object place

-- the deciding word of the slot that is to be decided
abbrev pub word_to_replace : Sizes → List (List ℕ) → Option Decision → ℕ
word_to_replace sizes nodes decision = option_map_or (λ of_slot. deciding_word sizes nodes of_slot.slot) decision 0

-- the word is deciding now, and was not before: another one was
abbrev pub with_decided : Sizes → ℕ → List (List ℕ) → ℕ → Option Decision → Ledger → Ledger
with_decided sizes before now event None ledger = ledger
with_decided sizes before now event (Some decision) ledger =
    if not (before == decision.fresh) && (deciding_word sizes now decision.slot == decision.fresh)
    then with_decision sizes event decision.slot before (Some decision.caller) ledger
    else ledger

-- the call has ended
abbrev pub with_returning : Option Returning → Step → ℕ → Ledger → Ledger
with_returning (Some returning) (step.Ended outcome) event ledger = with_returned returning.returned outcome event ledger
with_returning (Some returning) step.Going event ledger = ledger
with_returning (Some returning) (step.NotYet why) event ledger = ledger
with_returning None told event ledger = ledger

abbrev pub moments_told : Option Returning → Step → List Moment
moments_told (Some returning) (step.Ended outcome) = moment_of returning.moment ∷ []
moments_told (Some returning) step.Going = []
moments_told (Some returning) (step.NotYet why) = []
moments_told None told = []
