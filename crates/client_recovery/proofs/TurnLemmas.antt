-- What answers make of a recovery, whatever its stage.
use Rattle.std.proofs.Common.{◌≡◌, ℕ, ◌*◌, ◌<◌, Option, length, refl, sym, ap, subst, arith}
use Rattle.client_recovery.specs.declared.progress.Progress.{Progress}
use Rattle.client_recovery.specs.Progresses.{IsKept, recovery_at, turn_of}
use Rattle.machine.specs.declared.key_search.Found.{Found}
use Rattle.machine.specs.declared.key_search.Found.TheVariants as found_as
use Rattle.machine.specs.declared.link_walk.Walked.{Walked}
use Rattle.machine.specs.declared.link_walk.Walked.TheVariants as walked
use Rattle.machine.specs.declared.recovery.Recovering.{Recovering}
use Rattle.machine.specs.declared.recovery.Recovering.TheVariants.{NotYet}
use Rattle.machine.specs.KeySearch as search
use Rattle.machine.specs.KeySearch.{KeySearch}
use Rattle.machine.specs.LinkWalk as walk
use Rattle.machine.specs.LinkWalk.{IsLast, IsReserve, LinkWalk}
use Rattle.machine.specs.Places.{IsInPool}
use Rattle.machine.specs.Recovery.{next, turn, turn_at, verb_at}
use Rattle.machine.specs.RecoveryStage.{IsAt, Recovery, view_of, Stage, ReadEpoch, ReadBegin, Walk, Restock, ReadMeta, ReadLog, Find, ReadVersion, WriteSlot, Resolve, Erase, Free, WriteBegin, ReadBlock, Spread, Release}
use Rattle.machine.specs.Resolution as resolution
use Rattle.machine.specs.Resolution.{Resolution}
use Rattle.machine.specs.Turn.{Turn}
use Rattle.machine.proofs.KeySearchSlots as of_slots
use Rattle.machine.proofs.LinkWalkKept as of_walk
use Rattle.machine.proofs.RecoveryKept.{next-inside, turn-is}
use Rattle.object_form.specs.declared.classes.TheConstants.{CLASSES}
use Rattle.verb_words.specs.declared.verbs.Answer.{Answer}
use Rattle.verb_words.specs.declared.verbs.Answer.TheVariants.{Lost}
use Rattle.verb_words.specs.declared.verbs.Verb.{Verb}
use Rattle.verb_words.specs.declared.verbs.Why.TheVariants as why
use Rattle.verb_words.specs.Verb.{place_of}

find_lost : (phase : search.Phase) (key_search : KeySearch) (recovery : Recovery)
    → turn_at (Find (record key_search { phase = phase })) recovery Lost
    ≡ record { state = recovery; told = NotYet (why.Lost (place_of (verb_at (Find (record key_search { phase = phase })) recovery)).node) }
find_lost search.AtSlot key_search recovery = refl
find_lost (search.AtKey word key_test) key_search recovery = refl

resolve_lost : (phase : resolution.Phase) (resolving : Resolution) (recovery : Recovery)
    → turn_at (Resolve (record resolving { phase = phase })) recovery Lost
    ≡ record { state = recovery; told = NotYet (why.Lost (place_of (verb_at (Resolve (record resolving { phase = phase })) recovery)).node) }
resolve_lost resolution.AtSlot resolving recovery = refl
resolve_lost (resolution.AtKey key_test) resolving recovery = refl
resolve_lost (resolution.AtVersion object before) resolving recovery = refl
resolve_lost (resolution.AtExpected object version) resolving recovery = refl

-- where the verb's node is lost, nothing changes
pub turn_lost : (stage : Stage) (recovery : Recovery) → turn_at stage recovery Lost ≡ record { state = recovery; told = NotYet (why.Lost (place_of (verb_at stage recovery)).node) }
turn_lost ReadEpoch recovery = refl
turn_lost ReadBegin recovery = refl
turn_lost (Walk link_walk) recovery = refl
turn_lost (Restock class change) recovery = refl
turn_lost ReadMeta recovery = refl
turn_lost (ReadLog key_len log) recovery = refl
turn_lost (Find key_search) recovery = find_lost key_search.phase key_search recovery
turn_lost (ReadVersion slot word) recovery = refl
turn_lost (WriteSlot write) recovery = refl
turn_lost (Resolve resolving) recovery = resolve_lost resolving.phase resolving recovery
turn_lost (Erase write) recovery = refl
turn_lost (Free change) recovery = refl
turn_lost WriteBegin recovery = refl
turn_lost ReadBlock recovery = refl
turn_lost (Spread class backup) recovery = refl
turn_lost (Release class) recovery = refl

-- What holds of a recovery goes on to hold.

pub after-kept : (before after : Progress) (told : Recovering) (answer : Answer) → IsKept (recovery_at before) → turn_of after told ≡ turn (recovery_at before) answer → IsKept (recovery_at after)
after-kept before after told answer kept is =
    let state : recovery_at after ≡ (turn (recovery_at before) answer).state = ap (λ (t : Turn Recovery Recovering). t.state) is in
    let next = turn-is before.shape before.client (recovery_at before) answer kept in
    subst IsKept (sym state) (record { same_shape = refl; same_client = refl; limits = next.limits; client = next.client; stage = next.stage })

pub due-inside : (recovery now : Recovery) (verb : Verb) → IsKept recovery → recovery ≡ now → verb ≡ next recovery → IsInPool now.shape (place_of verb)
due-inside recovery now verb kept same is =
    let P : Recovery → Type 0 = λ r. IsInPool r.shape (place_of verb) in
    let Q : Verb → Type 0 = λ v. IsInPool recovery.shape (place_of v) in
    subst P same (subst Q (sym is) (next-inside recovery.shape recovery.client recovery kept))

-- a slot that was read as empty is one of the index
pub find_empty : (recovery : Recovery) (key_search : KeySearch) (answer : Answer) (slot : ℕ) → IsKept recovery → recovery.stage ≡ Find key_search → (search.turn key_search answer).told ≡ found_as.Empty slot
    → slot < 24 * recovery.shape.groups
find_empty recovery key_search answer slot kept at told =
    let P : Stage → Type 0 = λ s. IsAt s recovery in
    let here : IsAt (Find key_search) recovery = subst P at kept.stage in
    let Q : Found → Type 0 = λ t. of_slots.IsTold (24 * recovery.shape.groups) t in
    subst Q told (of_slots.turn-told (view_of recovery) recovery.key key_search answer here.1)

-- what a walk ends with are objects of its class, which is the next of the classes
pub walk_ends : (recovery : Recovery) (link_walk : LinkWalk) (answer : Answer) (last : Option (ℕ × ℕ)) (reserve : Option ℕ) → IsKept recovery → recovery.stage ≡ Walk link_walk
    → (walk.turn link_walk answer).told ≡ walked.End last reserve
    → (length recovery.ends < CLASSES) × IsLast recovery.shape (length recovery.ends) last × IsReserve recovery.shape (length recovery.ends) reserve
walk_ends recovery link_walk answer last reserve kept at told =
    let P : Stage → Type 0 = λ s. IsAt s recovery in
    let here : IsAt (Walk link_walk) recovery = subst P at kept.stage in
    let is = of_walk.turn-is (view_of recovery) link_walk answer here.2 in
    let Q : Walked → Type 0 = λ t. of_walk.IsTold recovery.shape (length recovery.ends) t in
    let says = subst Q told (subst (λ k. of_walk.IsTold recovery.shape k (walk.turn link_walk answer).told) here.3 is.told) in
    (omega (arith, here.2.class, here.3), says.0, says.1)
