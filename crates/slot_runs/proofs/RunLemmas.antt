-- What holds of each event of a run, from what holds of it in the small machine.
use Rattle.std.proofs.Common.{◌≡◌, ◌≢◌, ℕ, ◌*◌, ◌<◌, true, List, [], ◌∷◌, ◌++◌, Option, Some, None, refl, sym, ◌∙◌, ap, ap₂, subst, arith, inl, inr}
use Rattle.machine.specs.declared.slot_write.Wrote.{Wrote}
use Rattle.machine.specs.declared.slot_write.Wrote.TheVariants as wrote
use Rattle.machine.specs.EpochRead.{IsView}
use Rattle.machine.specs.Places.{backup_count, slot_primary}
use Rattle.machine.specs.SlotWrite.{Phase, Gather, Mend, Check, Final, Wait, SlotWrite, next, verb_at}
use Rattle.region_view.specs.Placed.{Viewed}
use Rattle.slot_rounds.specs.Allowed as allowed
use Rattle.slot_rounds.specs.Claims as claims
use Rattle.slot_rounds.specs.Run as rounds
use Rattle.slot_rounds.specs.Write as small
use Rattle.slot_rounds.specs.Write.{Writing}
use Rattle.slot_rounds.proofs.RoundLemmas.{holds}
use Rattle.slot_runs.specs.Run.{State, Event, Begin, Step, backup_word, deciding, happens, opening, run, told}
use Rattle.slot_runs.specs.Allowed.{IsAllowed, IsSettled}
use Rattle.slot_runs.specs.Claims.{AreFirstWords, Decides, HaveFewWords, Holds, HoldsAlong, IsEverywhere, IsFinalSwap}
use Rattle.slot_runs.proofs.FamilyLemmas.{at_listing, length-listing}
use Rattle.slot_runs.proofs.HappensLemmas.{IsGood-happens, IsGood-opening, none_writes, seen-happens, seen-told}
use Rattle.slot_runs.proofs.OriginLemmas.{HaveOrigins, HaveOrigins-more, MayHappen-seen, run-more}
use Rattle.slot_runs.proofs.Seen.{event_seen, first_seen, phase_seen, slot_seen, state_seen, told_seen, write_seen, writer_seen}
use Rattle.slot_runs.proofs.Standing.{IsGood}
use Rattle.verb_words.specs.Applied.{answer_to}
use Rattle.verb_words.specs.declared.verbs.Answer.TheVariants.{Word}
use Rattle.verb_words.specs.declared.verbs.Verb.TheVariants.{Swap}

-- ---- final swaps

final_of : (phase : Phase) → phase_seen phase ≡ small.Deciding → phase ≡ Final
final_of Gather is = absurd cc
final_of (Mend backup) is = absurd cc
final_of Check is = absurd cc
final_of Final is = refl
final_of Wait is = absurd cc

final_writer : (state : State) (writer : ℕ) (mine : Option SlotWrite) (other : small.Write) → state.writers writer ≡ mine
    → writer_seen mine ≡ Writing other → other.phase ≡ small.Deciding → IsFinalSwap state (Step writer)
final_writer state writer None other is seen last = absurd cc
final_writer state writer (Some write) other is seen last =
    let same : write_seen write ≡ other = cc (seen) in
    record {
      writer = writer;
      write = write;
      step = refl;
      writes = is;
      last = final_of write.phase (ap (λ (w : small.Write). w.phase) same ∙ last);
    }

-- a final swap of the small machine is one of the run
swap_of : (state : State) (event : Event) → claims.IsFinalSwap (state_seen state) (event_seen event) → IsFinalSwap state event
swap_of state (Begin writer expect fresh) swap = let step = swap.step in absurd (cc (step))
swap_of state (Step writer) swap =
    let step = swap.step in
    let same : writer ≡ swap.number = cc (step) in
    final_writer state writer (state.writers writer) swap.write refl
    (subst (λ n. writer_seen (state.writers n) ≡ Writing swap.write) (sym same) swap.writes) swap.last

-- and the other way round
swap_seen : (state : State) (event : Event) → IsFinalSwap state event → claims.IsFinalSwap (state_seen state) (event_seen event)
swap_seen state event swap =
    record {
      number = swap.writer;
      write = write_seen swap.write;
      step = ap event_seen swap.step;
      writes = ap writer_seen swap.writes;
      last = ap phase_seen swap.last;
    }

not_installed : (state : State) (event : Event) → claims.IsInstalled (state_seen state) (event_seen event) → ⊥
not_installed state (Begin writer expect fresh) installed = let is = installed.install in cc (is)
not_installed state (Step writer) installed = let is = installed.install in cc (is)

won_of : (told : Wrote) → told_seen told ≡ small.Won → told ≡ wrote.Won
won_of wrote.Going is = absurd cc
won_of wrote.Won is = refl
won_of (wrote.Changed word) is = absurd cc
won_of (wrote.Unchanged word) is = absurd cc
won_of (wrote.Refused node) is = absurd cc

-- ---- what a final swap does

first_of : (state : State) (backup : ℕ) (first : Option ℕ) → state.firsts backup ≡ first
    → first_seen (deciding state) (state.firsts backup) ≢ deciding state
    → state.firsts backup ≡ Some (first_seen (deciding state) (state.firsts backup))
first_of state backup None is other = absurd (other (ap (first_seen (deciding state)) is))
first_of state backup (Some word) is other = is ∙ ap Some (sym (ap (first_seen (deciding state)) is))

AreFirstWords-seen : (state : State) → claims.IsFull (slot_seen state) → AreFirstWords state (slot_seen state).firsts
AreFirstWords-seen state full =
    let seen : ℕ → ℕ = λ backup. first_seen (deciding state) (state.firsts backup) in
    let count = backup_count state.view state.slot in
    record {
      long = length-listing seen count;
      each = λ backup below.
          let here = at_listing seen count backup (omega (arith, below, length-listing seen count)) in
          first_of state backup (state.firsts backup) refl (λ is. full backup below (here ∙ is)) ∙ ap Some (sym here);
    }

IsEverywhere-seen : (state : State) (word : ℕ) → claims.IsEverywhere (slot_seen state) word → IsEverywhere state word
IsEverywhere-seen state word everywhere backup within =
    let count = backup_count state.view state.slot in
    sym (at_listing (backup_word state) count backup within)
    ∙ everywhere backup (omega (arith, within, length-listing (backup_word state) count))

-- the verb of a final swap
final_verb : (state : State) (write : SlotWrite) (writer : ℕ) → IsGood state → state.writers writer ≡ Some write → write.phase ≡ Final
    → next write ≡ Swap (slot_primary state.view state.slot) write.expect write.fresh
final_verb state write writer good is last =
    let own = good.own writer write is in
    ap (λ p. verb_at p write) last
    ∙ ap₂ (λ v s. Swap (slot_primary v s) write.expect write.fresh) own.is.held own.slot

Decides-seen : (state : State) (event : Event) → allowed.MayHappen (state_seen state) (event_seen event) → IsGood state
    → (swap : IsFinalSwap state event) → Decides state event swap.write
unfolding swap_seen
Decides-seen state event may good swap =
    let decides = (holds (state_seen state) (event_seen event) may good.sound).decides (swap_seen state event swap) in
    let seen = seen-happens state event good in
    let swaps = final_verb state swap.write swap.writer good swap.writes swap.last in
    let found : answer_to state.nodes (Swap (slot_primary state.view state.slot) swap.write.expect swap.write.fresh) true ≡ Word (deciding state) =
    rw good.ground.has.primary.live refl in
    record {
      swaps = swaps;
      found = ap (λ v. answer_to state.nodes v true) swaps ∙ (found ∙ ap Word decides.found);
      made = ap (λ (s : rounds.State). s.slot.primary) seen ∙ decides.made;
      changed = decides.changed;
      words = (slot_seen state).firsts;
      firsts = AreFirstWords-seen state decides.full;
      wins = decides.wins;
      everywhere = IsEverywhere-seen (happens state event) swap.write.fresh
          (subst (λ (s : rounds.State). claims.IsEverywhere s.slot swap.write.fresh) (sym seen) decides.everywhere);
      tells = won_of (told state event) (seen-told state event good ∙ decides.told);
    }

-- ---- an event

HaveFewWords-seen : (state : State) → IsGood state → claims.HaveFewWords (state_seen state) → HaveFewWords state
HaveFewWords-seen state good few writer write is before =
    let bound = few writer (write_seen write) (ap writer_seen is) ((good.begun writer write is).ended before) in
    omega (arith, bound, length-listing (backup_word state) (backup_count state.view state.slot))

Holds-seen : (state : State) (event : Event) → allowed.MayHappen (state_seen state) (event_seen event) → IsGood state → Holds state event
Holds-seen state event may good =
    let here = holds (state_seen state) (event_seen event) may good.sound in
    let seen = seen-happens state event good in
    record {
      changes = λ other. elim (here.changes (λ is. other (ap (λ (s : rounds.State). s.slot.primary) seen ∙ is))) [
        | inl swap ↦ swap_of state event swap
        | inr installed ↦ absurd (not_installed state event installed)
      ];
      won = λ is. swap_of state event (here.won (sym (seen-told state event good) ∙ ap told_seen is));
      decides = Decides-seen state event may good;
      few = HaveFewWords-seen (happens state event) (IsGood-happens state event may good) (subst claims.HaveFewWords (sym seen) here.few);
    }

-- ---- along a list of events

HoldsAlong-good : (start : State) (past events : List Event) → IsGood (run start past) → HaveOrigins start past
    → IsAllowed start past events → HoldsAlong (run start past) events
HoldsAlong-good start past [] good origins allowed = tt
HoldsAlong-good start past (event ∷ events) good origins allowed =
    let may = MayHappen-seen start past event origins allowed.0 in
    let later = IsGood-happens (run start past) event may good in (
      Holds-seen (run start past) event may good,
      subst (λ s. HoldsAlong s events) (run-more start past event)
          (HoldsAlong-good start (past ++ event ∷ []) events (subst IsGood (sym (run-more start past event)) later)
          (HaveOrigins-more start past event origins good may) allowed.1),
    )

-- the law on every run
pub HoldsAlong-opening : (view : Viewed) (slot : ℕ) (nodes : List (List ℕ)) (events : List Event) → IsView view
    → slot < 24 * view.shape.groups → IsSettled view slot nodes → IsAllowed (opening view slot nodes) [] events
    → HoldsAlong (opening view slot nodes) events
HoldsAlong-opening view slot nodes events is below settled allowed =
    HoldsAlong-good (opening view slot nodes) [] events (IsGood-opening view slot nodes is below settled)
    (λ writer write writes. absurd (none_writes write writes)) allowed
