-- What the ends of a recovery stand on.
use Rattle.std.proofs.Common.{◌≡◌, ◌≢◌, ℕ, ◌+◌, ◌*◌, ◌/◌, ◌%◌, ◌^◌, ◌<◌, ◌≤◌, ◌==◌, ◌⊎◌, inl, inr, Bool, true, false, List, ◌∷◌, ◌++◌, [], length, drop, Option, Some, None, refl, sym, ap, ◌∙◌, ◌↔◌, subst, arith}
use Rattle.std.specs.Prelude.{nat_lt}
use Rattle.std.proofs.lemmas.Bool.{eq-eqb}
use Rattle.std.proofs.lemmas.Bool.Decides.{nat_tests}
use Rattle.block_alloc.specs.declared.BlockWord.{BlockWord}
use Rattle.block_alloc.specs.declared.BlockWord.TheVariants.{Unused, Owned, Released}
use Rattle.block_alloc.specs.BlockWord.{block_in}
use Rattle.machine.specs.declared.bit_change.Changed.{Changed}
use Rattle.machine.specs.declared.bit_change.Changed.TheVariants as changed
use Rattle.machine.specs.declared.key_search.Found.{Found}
use Rattle.machine.specs.declared.key_search.Found.TheVariants as found_as
use Rattle.machine.specs.declared.link_walk.Walked.{Walked}
use Rattle.machine.specs.declared.link_walk.Walked.TheVariants as walked
use Rattle.machine.specs.declared.object_write.Written.{Written}
use Rattle.machine.specs.declared.object_write.Written.TheVariants as written
use Rattle.machine.specs.declared.recovery.Recovering.{Recovering}
use Rattle.machine.specs.declared.recovery.Recovering.TheVariants.{Going, Recovered, NotYet}
use Rattle.machine.specs.declared.resolution.Resolved.{Resolved}
use Rattle.machine.specs.declared.resolution.Resolved.TheVariants as resolved
use Rattle.machine.specs.BitChange as bits
use Rattle.machine.specs.BitChange.{BitChange}
use Rattle.machine.specs.BlockRelease.{first_block, next_block, on_block, on_block_word, spreads_from}
use Rattle.machine.specs.EpochRead.{open_mask}
use Rattle.machine.specs.KeySearch as search
use Rattle.machine.specs.KeySearch.{KeySearch}
use Rattle.machine.specs.LinkWalk as walk
use Rattle.machine.specs.LinkWalk.{LinkWalk}
use Rattle.machine.specs.ObjectNames.{Object, object_in}
use Rattle.machine.specs.Places.{replica_count}
use Rattle.machine.specs.Recovery.{first_reserve, fresh_of, is_won, linked_by, meta_for, next, on_begin, on_erase, on_find, on_free, on_meta, on_resolved, on_restock, on_version, on_walk, on_wrote, reads_log, reads_object, restocks_from, settles, turn, turn_at, verb_at, walks_back, walks_next, with_log}
use Rattle.machine.specs.RecoveryStage.{IsAt, IsRecovery, Recovery, Stage, ReadEpoch, ReadBegin, Walk, Restock, ReadMeta, ReadLog, Find, ReadVersion, WriteSlot, Resolve, Erase, Free, WriteBegin, ReadBlock, Spread, Release, view_of, word_at_block}
use Rattle.machine.specs.Resolution as resolution
use Rattle.machine.specs.Resolution.{Resolution}
use Rattle.machine.specs.SlotWrite as slots
use Rattle.machine.specs.SlotWrite.{IsSlotWrite, SlotWrite, judged}
use Rattle.machine.specs.WordsWrite as words
use Rattle.machine.specs.WordsWrite.{WordsWrite}
use Rattle.object_form.specs.declared.classes.TheConstants.{CLASSES}
use Rattle.object_form.specs.declared.metas.Meta.{Meta}
use Rattle.object_form.specs.Class.{words_for}
use Rattle.region_view.specs.Sizes.{IsWithinLimits, Sizes}
use Rattle.snapshot_rules.specs.declared.rules.Verdict.TheVariants.{CheckLeast, Lose}
use Rattle.snapshot_write.specs.Causes.{ReadsPrimary}
use Rattle.verb_words.specs.declared.verbs.Answer.{Answer}
use Rattle.verb_words.specs.declared.verbs.Answer.TheVariants.{Word, Done, Lost}
use Rattle.verb_words.specs.declared.verbs.Why.TheVariants as why
use Rattle.verb_words.specs.Verb.{place_of}
use Rattle.client_recovery.specs.Progresses.{IsKept}
use Rattle.client_recovery.specs.Causes.{IsDone, IsSealed, IsUnchanged, PassesBlock}
use Rattle.client_recovery.proofs.RefusedLemmas.{ChangedSays, FoundSays, IsLostAt, ResolvedSays, WalkedSays, WrittenSays, bits-says, resolution-says, search-says, walk-says, words-says}
use Rattle.client_recovery.proofs.TurnLemmas.{turn_lost}

-- Where a recovery only goes on.

goes-is_won : (recovery : Recovery) (replaced : ℕ) → (is_won recovery replaced).told ≡ Going
goes-is_won recovery replaced = by (object_in recovery.shape replaced) refl
  where
    by : (object : Option Object) → object_in recovery.shape replaced ≡ object → (is_won recovery replaced).told ≡ Going
    by None none = rw none refl
    by (Some object) some = rw some refl

goes-walks_back : (recovery : Recovery) (slot word : ℕ) → (walks_back recovery slot word).told ≡ Going
goes-walks_back recovery slot word = by (object_in recovery.shape word) refl
  where
    by : (object : Option Object) → object_in recovery.shape word ≡ object → (walks_back recovery slot word).told ≡ Going
    by None none = rw none refl
    by (Some object) some = rw some refl

goes-on_version : (recovery : Recovery) (slot word found : ℕ) → (on_version recovery slot word found).told ≡ Going
goes-on_version recovery slot word found = by (word == fresh_of recovery) refl ((found + 1) % 2 ^ 64 == recovery.version) refl
  where
    by : (t : Bool) → (word == fresh_of recovery) ≡ t → (u : Bool) → ((found + 1) % 2 ^ 64 == recovery.version) ≡ u → (on_version recovery slot word found).told ≡ Going
    by true own u before = rw own (goes-is_won recovery recovery.expect)
    by false other true before = rw (other, before) refl
    by false other false later = rw (other, later) (goes-walks_back recovery slot word)

goes-settles : (recovery : Recovery) → (settles recovery).told ≡ Going
goes-settles recovery = by (recovery.version == 0) refl
  where
    by : (t : Bool) → (recovery.version == 0) ≡ t → (settles recovery).told ≡ Going
    by true none = rw none refl
    by false some = rw some refl

goes-on_meta : (recovery : Recovery) (found : ℕ) → (on_meta recovery found).told ≡ Going
goes-on_meta recovery found = by (meta_for recovery found) refl
  where
    by : (meta : Option Meta) → meta_for recovery found ≡ meta → (on_meta recovery found).told ≡ Going
    by None none = rw none refl
    by (Some meta) some = rw some refl

goes-reads_log : (recovery : Recovery) (key_len : ℕ) (log : List ℕ) → (reads_log recovery key_len log).told ≡ Going
goes-reads_log recovery key_len log = by (length log == 2 + words_for key_len) refl
  where
    by : (t : Bool) → (length log == 2 + words_for key_len) ≡ t → (reads_log recovery key_len log).told ≡ Going
    by true full = rw full (goes-settles (with_log recovery key_len log))
    by false more = rw more refl

goes-reads_object : (recovery : Recovery) → (reads_object recovery).told ≡ Going
goes-reads_object recovery = by (linked_by recovery.number 0 recovery.ends) refl
  where
    by : (object : Option Object) → linked_by recovery.number 0 recovery.ends ≡ object → (reads_object recovery).told ≡ Going
    by None none = rw none refl
    by (Some object) some = rw some refl

goes-restocks_from : (recovery : Recovery) (class : ℕ) → (restocks_from recovery class).told ≡ Going
goes-restocks_from recovery class = by (first_reserve class (drop class recovery.ends)) refl
  where
    by : (object : Option Object) → first_reserve class (drop class recovery.ends) ≡ object → (restocks_from recovery class).told ≡ Going
    by None none = rw none (goes-reads_object recovery)
    by (Some object) some = rw some refl

goes-walks_next : (recovery : Recovery) → (walks_next recovery).told ≡ Going
goes-walks_next recovery = by (length recovery.ends == CLASSES) refl
  where
    by : (t : Bool) → (length recovery.ends == CLASSES) ≡ t → (walks_next recovery).told ≡ Going
    by true all = rw all (goes-restocks_from recovery 0)
    by false more = rw more refl

goes-spreads_from : (recovery : Recovery) (class backup : ℕ) → (spreads_from recovery class backup).told ≡ Going
goes-spreads_from recovery class backup = by (nat_lt (backup + 1) (replica_count (view_of recovery) (word_at_block recovery))) refl
  where
    by : (t : Bool) → nat_lt (backup + 1) (replica_count (view_of recovery) (word_at_block recovery)) ≡ t → (spreads_from recovery class backup).told ≡ Going
    by true more = rw more refl
    by false last = rw last refl

product-some : (a b : ℕ) → 1 ≤ a → 1 ≤ b → 0 < a * b
product-some a b some any = grind arith

-- there is a first block
goes-first_block : (recovery : Recovery) → IsWithinLimits recovery.shape → (first_block recovery).told ≡ Going
goes-first_block recovery limits = by (nat_lt 0 (recovery.shape.regions * recovery.shape.blocks)) refl
  where
    by : (t : Bool) → nat_lt 0 (recovery.shape.regions * recovery.shape.blocks) ≡ t → (first_block recovery).told ≡ Going
    by true some = rw some refl
    by false none =
        let some : 0 < recovery.shape.regions * recovery.shape.blocks = product-some recovery.shape.regions recovery.shape.blocks limits.regions.0 limits.blocks.0 in
        absurd (grind (arith, nat_tests))

-- What is told, and what it stands on.

abbrev pub SaysOf : Stage → Recovery → Answer → Recovering → Type 0
SaysOf stage recovery answer Going = Unit {0}
SaysOf stage recovery answer Recovered = IsDone recovery answer
SaysOf stage recovery answer (NotYet (why.Sealed word)) = IsSealed recovery answer word
SaysOf stage recovery answer (NotYet (why.Lost node)) = IsLostAt (place_of (verb_at stage recovery)).node answer node
SaysOf stage recovery answer (NotYet (why.Unchanged slot word)) = IsUnchanged recovery answer slot word

-- what only goes on says nothing
going : (stage : Stage) (recovery : Recovery) (answer : Answer) (told : Recovering) → told ≡ Going → SaysOf stage recovery answer told
going stage recovery answer told goes = subst (SaysOf stage recovery answer) (sym goes) tt

epoch-says : (recovery : Recovery) (found : ℕ) → recovery.stage ≡ ReadEpoch → SaysOf ReadEpoch recovery (Word found) (turn_at ReadEpoch recovery (Word found)).told
epoch-says recovery found at = by (open_mask recovery.shape found) refl
  where
    by : (mask : Option ℕ) → open_mask recovery.shape found ≡ mask → SaysOf ReadEpoch recovery (Word found) (turn_at ReadEpoch recovery (Word found)).told
    by None none = rw none (at, refl, none)
    by (Some mask) opens = rw opens tt

begin-says : (recovery : Recovery) (found : ℕ) → IsWithinLimits recovery.shape → SaysOf ReadBegin recovery (Word found) (on_begin recovery found).told
begin-says recovery found limits = by (found % 2 == 0) refl
  where
    by : (t : Bool) → (found % 2 == 0) ≡ t → SaysOf ReadBegin recovery (Word found) (on_begin recovery found).told
    by true even = rw even (going ReadBegin recovery (Word found) _ (goes-first_block recovery limits))
    by false odd = rw odd (going ReadBegin recovery (Word found) _ (goes-walks_next (record recovery { number = (found + 1) / 2; ends = [] })))

walk-told : (recovery : Recovery) (before after : LinkWalk) (answer : Answer) (told : Walked) → WalkedSays (place_of (walk.next before)).node answer told → SaysOf (Walk before) recovery answer (on_walk recovery after told).told
walk-told recovery before after answer walked.Going says = tt
walk-told recovery before after answer (walked.End last reserve) says =
    going (Walk before) recovery answer _ (goes-walks_next (record recovery { ends = recovery.ends ++ record { last = last; reserve = reserve } ∷ [] }))
walk-told recovery before after answer (walked.Refused node) says = says

restock-told : (recovery : Recovery) (class : ℕ) (before after : BitChange) (answer : Answer) (told : Changed) → ChangedSays (place_of (bits.next before)).node answer told
    → SaysOf (Restock class before) recovery answer (on_restock recovery class after told).told
restock-told recovery class before after answer changed.Going says = tt
restock-told recovery class before after answer changed.Whole says = going (Restock class before) recovery answer _ (goes-restocks_from recovery (class + 1))
restock-told recovery class before after answer (changed.Refused node) says = says

find-told : (recovery : Recovery) (before after : KeySearch) (answer : Answer) (told : Found) → FoundSays (place_of (search.next before)).node answer told → SaysOf (Find before) recovery answer (on_find recovery after told).told
find-told recovery before after answer found_as.Going says = tt
find-told recovery before after answer (found_as.Empty slot) says = tt
find-told recovery before after answer (found_as.At slot word kind value_len) says = tt
find-told recovery before after answer found_as.Nowhere says = tt
find-told recovery before after answer (found_as.Refused node) says = says

resolve-told : (recovery : Recovery) (before after : Resolution) (answer : Answer) (told : Resolved) → ResolvedSays (place_of (resolution.next before)).node answer told
    → SaysOf (Resolve before) recovery answer (on_resolved recovery after told).told
resolve-told recovery before after answer resolved.Going says = tt
resolve-told recovery before after answer resolved.Still says = tt
resolve-told recovery before after answer resolved.Won says = going (Resolve before) recovery answer _ (goes-is_won recovery recovery.expect)
resolve-told recovery before after answer resolved.Beaten says = tt
resolve-told recovery before after answer resolved.OtherKey says = tt
resolve-told recovery before after answer (resolved.Refused node) says = says

erase-told : (recovery : Recovery) (before after : WordsWrite) (answer : Answer) (told : Written) → WrittenSays (place_of (words.next before)).node answer told
    → SaysOf (Erase before) recovery answer (on_erase recovery after told).told
erase-told recovery before after answer written.Going says = tt
erase-told recovery before after answer written.Whole says = tt
erase-told recovery before after answer (written.Refused node) says = says

free-told : (recovery : Recovery) (before after : BitChange) (answer : Answer) (told : Changed) → ChangedSays (place_of (bits.next before)).node answer told
    → SaysOf (Free before) recovery answer (on_free recovery after told).told
free-told recovery before after answer changed.Going says = tt
free-told recovery before after answer changed.Whole says = tt
free-told recovery before after answer (changed.Refused node) says = says

-- the slot's write gives up exactly where it waits and the primary is as it was
write-told : (recovery : Recovery) (write : SlotWrite) (found : ℕ) (phase : slots.Phase) → recovery.stage ≡ WriteSlot write → write.phase ≡ phase → (phase ≡ slots.Wait → judged write.list write.fresh ≡ Lose)
    → SaysOf (WriteSlot write) recovery (Word found) (on_wrote recovery (slots.turn_at phase write found).state (slots.turn_at phase write found).told).told
write-told recovery write found slots.Gather at here lost = tt
write-told recovery write found (slots.Mend backup) at here lost = tt
write-told recovery write found slots.Check at here lost = by (found == write.expect) refl
  where
    by : (t : Bool) → (found == write.expect) ≡ t
        → SaysOf (WriteSlot write) recovery (Word found) (on_wrote recovery (slots.turn_at slots.Check write found).state (slots.turn_at slots.Check write found).told).told
    by true same = rw same tt
    by false other = rw other tt
write-told recovery write found slots.Final at here lost = going (WriteSlot write) recovery (Word found) _ (goes-is_won recovery write.expect)
write-told recovery write found slots.Wait at here lost = by (found == write.expect) refl
  where
    reads : ReadsPrimary write
    reads = ap (λ p. slots.verb_at p write) here

    by : (t : Bool) → (found == write.expect) ≡ t
        → SaysOf (WriteSlot write) recovery (Word found) (on_wrote recovery (slots.turn_at slots.Wait write found).state (slots.turn_at slots.Wait write found).told).told
    by true same = let is : found ≡ write.expect = grind (arith, nat_tests) in rw same (write, at, lost refl, reads, refl, is, refl)
    by false other = rw other tt

is_lost : (write : SlotWrite) (phase : slots.Phase) (backups : ℕ) → write.phase ≡ phase → slots.IsAt write.phase write.fresh write.list backups → phase ≡ slots.Wait → judged write.list write.fresh ≡ Lose
is_lost write phase backups here at waits =
    let P : slots.Phase → Type 0 = λ p. slots.IsAt p write.fresh write.list backups in subst P (here ∙ waits) at

-- the next block, where there is one, and else the end
next-says : (stage : Stage) (recovery : Recovery) (found : ℕ) → recovery.position < recovery.shape.regions * recovery.shape.blocks
    → (PassesBlock recovery found ⊎ ((class : ℕ) × (recovery.stage ≡ Release class))) → SaysOf stage recovery (Word found) (next_block recovery).told
next-says stage recovery found below cause = by (nat_lt (recovery.position + 1) (recovery.shape.regions * recovery.shape.blocks)) refl
  where
    by : (t : Bool) → nat_lt (recovery.position + 1) (recovery.shape.regions * recovery.shape.blocks) ≡ t → SaysOf stage recovery (Word found) (next_block recovery).told
    by true more = rw more tt
    by false last = let end : recovery.position + 1 ≡ recovery.shape.regions * recovery.shape.blocks = grind (arith, nat_tests) in rw last (end, (found, refl, cause))

block-says : (recovery : Recovery) (found : ℕ) → recovery.stage ≡ ReadBlock → recovery.position < recovery.shape.regions * recovery.shape.blocks → SaysOf ReadBlock recovery (Word found) (on_block_word recovery found).told
block-says recovery found at below = by (block_in found) refl
  where
    passes : ((class : ℕ) → block_in found ≢ Some (Owned recovery.client class)) → SaysOf ReadBlock recovery (Word found) (next_block recovery).told
    passes other = next-says ReadBlock recovery found below (inl (at, other))

    of_client : (client class : ℕ) → block_in found ≡ Some (Owned client class) → (t : Bool) → (client == recovery.client) ≡ t → SaysOf ReadBlock recovery (Word found) (on_block recovery (Some (Owned client class))).told
    of_client client class is true own = rw own (going ReadBlock recovery (Word found) _ (goes-spreads_from recovery class 0))
    of_client client class is false other = rw other (passes (λ k same.
        let both : Some (Owned client class) ≡ Some (Owned recovery.client k) = sym is ∙ same in
        let owner : client ≡ recovery.client = cc in
        absurd (grind (arith, nat_tests))))

    by : (block : Option BlockWord) → block_in found ≡ block → SaysOf ReadBlock recovery (Word found) (on_block recovery block).told
    by None is = passes (λ k same. absurd cc)
    by (Some Unused) is = passes (λ k same. let bad : Some Unused ≡ Some (Owned recovery.client k) = sym is ∙ same in absurd cc)
    by (Some (Released class)) is = passes (λ k same. let bad : Some (Released class) ≡ Some (Owned recovery.client k) = sym is ∙ same in absurd cc)
    by (Some (Owned client class)) is = of_client client class is (client == recovery.client) refl

turn_at-says : (s : Sizes) (n : ℕ) (stage : Stage) (recovery : Recovery) (answer : Answer) → recovery.stage ≡ stage → IsRecovery s n recovery → IsAt stage recovery → SaysOf stage recovery answer (turn_at stage recovery answer).told
turn_at-says s n ReadEpoch recovery (Word found) at is here = epoch-says recovery found at
turn_at-says s n ReadEpoch recovery Done at is here = tt
turn_at-says s n ReadEpoch recovery Lost at is here = (refl, refl)
turn_at-says s n ReadBegin recovery (Word found) at is here = begin-says recovery found is.limits
turn_at-says s n ReadBegin recovery Done at is here = tt
turn_at-says s n ReadBegin recovery Lost at is here = (refl, refl)
turn_at-says s n (Walk link_walk) recovery answer at is here =
    walk-told recovery link_walk (walk.turn link_walk answer).state answer (walk.turn link_walk answer).told (walk-says link_walk answer)
turn_at-says s n (Restock class change) recovery answer at is here =
    restock-told recovery class change (bits.turn change answer).state answer (bits.turn change answer).told (bits-says change answer)
turn_at-says s n ReadMeta recovery (Word found) at is here = going ReadMeta recovery (Word found) _ (goes-on_meta recovery found)
turn_at-says s n ReadMeta recovery Done at is here = tt
turn_at-says s n ReadMeta recovery Lost at is here = (refl, refl)
turn_at-says s n (ReadLog key_len log) recovery (Word found) at is here = going (ReadLog key_len log) recovery (Word found) _ (goes-reads_log recovery key_len (log ++ found ∷ []))
turn_at-says s n (ReadLog key_len log) recovery Done at is here = tt
turn_at-says s n (ReadLog key_len log) recovery Lost at is here = (refl, refl)
turn_at-says s n (Find key_search) recovery answer at is here =
    find-told recovery key_search (search.turn key_search answer).state answer (search.turn key_search answer).told (search-says key_search answer)
turn_at-says s n (ReadVersion slot word) recovery (Word found) at is here = going (ReadVersion slot word) recovery (Word found) _ (goes-on_version recovery slot word found)
turn_at-says s n (ReadVersion slot word) recovery Done at is here = tt
turn_at-says s n (ReadVersion slot word) recovery Lost at is here = (refl, refl)
turn_at-says s n (WriteSlot write) recovery (Word found) at is here = write-told recovery write found write.phase at refl (is_lost write write.phase _ refl here.1.phase)
turn_at-says s n (WriteSlot write) recovery Done at is here = tt
turn_at-says s n (WriteSlot write) recovery Lost at is here = (refl, refl)
turn_at-says s n (Resolve resolving) recovery answer at is here =
    resolve-told recovery resolving (resolution.turn resolving answer).state answer (resolution.turn resolving answer).told (resolution-says resolving answer)
turn_at-says s n (Erase write) recovery answer at is here =
    erase-told recovery write (words.turn write answer).state answer (words.turn write answer).told (words-says write answer)
turn_at-says s n (Free change) recovery answer at is here =
    free-told recovery change (bits.turn change answer).state answer (bits.turn change answer).told (bits-says change answer)
turn_at-says s n WriteBegin recovery (Word found) at is here = tt
turn_at-says s n WriteBegin recovery Done at is here = going WriteBegin recovery Done _ (goes-first_block recovery is.limits)
turn_at-says s n WriteBegin recovery Lost at is here = (refl, refl)
turn_at-says s n ReadBlock recovery (Word found) at is here = block-says recovery found at here.1
turn_at-says s n ReadBlock recovery Done at is here = tt
turn_at-says s n ReadBlock recovery Lost at is here = (refl, refl)
turn_at-says s n (Spread class backup) recovery (Word found) at is here = tt
turn_at-says s n (Spread class backup) recovery Done at is here = going (Spread class backup) recovery Done _ (goes-spreads_from recovery class (backup + 1))
turn_at-says s n (Spread class backup) recovery Lost at is here = (refl, refl)
turn_at-says s n (Release class) recovery (Word found) at is here = next-says (Release class) recovery found here.0.1 (inr (class, at))
turn_at-says s n (Release class) recovery Done at is here = tt
turn_at-says s n (Release class) recovery Lost at is here = (refl, refl)

-- what a recovery tells stands on what was read
pub turn-says : (s : Sizes) (n : ℕ) (recovery : Recovery) (answer : Answer) → IsRecovery s n recovery → SaysOf recovery.stage recovery answer (turn recovery answer).told
turn-says s n recovery answer is = turn_at-says s n recovery.stage recovery answer refl is is.stage

-- And the other way.

pub sealed-told : (recovery : Recovery) (answer : Answer) (word : ℕ) → IsSealed recovery answer word → (turn recovery answer).told ≡ NotYet (why.Sealed word)
sealed-told recovery answer word is =
    ap (λ a. (turn recovery a).told) is.1 ∙ ap (λ stage. (turn_at stage recovery (Word word)).told) is.0 ∙ rw is.2 refl

pub lost-told : (recovery : Recovery) (answer : Answer) (node : ℕ) → (answer ≡ Lost) × (node ≡ (place_of (next recovery)).node) → (turn recovery answer).told ≡ NotYet (why.Lost node)
lost-told recovery answer node is =
    ap (λ a. (turn recovery a).told) is.0 ∙ ap (λ t. t.told) (turn_lost recovery.stage recovery) ∙ ap (λ n. NotYet (why.Lost n)) (sym is.1)

waits-told : (recovery : Recovery) (write : SlotWrite) (phase : slots.Phase) (backups : ℕ) → slots.IsAt phase write.fresh write.list backups → judged write.list write.fresh ≡ Lose
    → slots.verb_at phase write ≡ slots.verb_at slots.Wait write
    → (on_wrote recovery (slots.turn_at phase write write.expect).state (slots.turn_at phase write write.expect).told).told ≡ NotYet (why.Unchanged write.slot write.expect)
waits-told recovery write slots.Gather backups at lost reads = absurd cc
waits-told recovery write (slots.Mend backup) backups at lost reads = absurd cc
waits-told recovery write slots.Check backups at lost reads = let bad : CheckLeast ≡ Lose = sym at ∙ lost in absurd cc
waits-told recovery write slots.Final backups at lost reads = absurd cc
waits-told recovery write slots.Wait backups at lost reads = rw (eq-eqb write.expect write.expect refl) refl

pub unchanged-told : (s : Sizes) (n : ℕ) (recovery : Recovery) (answer : Answer) (slot word : ℕ) → IsRecovery s n recovery → IsUnchanged recovery answer slot word → (turn recovery answer).told ≡ NotYet (why.Unchanged slot word)
unchanged-told s n recovery answer slot word holds (write, at, lost, reads, answered, same, of_slot) =
    let here : IsAt (WriteSlot write) recovery = subst (λ stage. IsAt stage recovery) at holds.stage in
    ap (λ a. (turn recovery a).told) (answered ∙ ap Word same)
    ∙ ap (λ stage. (turn_at stage recovery (Word write.expect)).told) at
    ∙ waits-told recovery write write.phase _ here.1.phase lost reads
    ∙ sym (λ i. NotYet (why.Unchanged (of_slot i) (same i)))

past-told : (recovery : Recovery) → recovery.position + 1 ≡ recovery.shape.regions * recovery.shape.blocks → (next_block recovery).told ≡ Recovered
past-told recovery last = by (nat_lt (recovery.position + 1) (recovery.shape.regions * recovery.shape.blocks)) refl
  where
    by : (t : Bool) → nat_lt (recovery.position + 1) (recovery.shape.regions * recovery.shape.blocks) ≡ t → (next_block recovery).told ≡ Recovered
    by true more = absurd (grind (arith, nat_tests))
    by false end = rw end refl

passed-told : (recovery : Recovery) (found : ℕ) → recovery.position + 1 ≡ recovery.shape.regions * recovery.shape.blocks → ((class : ℕ) → block_in found ≢ Some (Owned recovery.client class)) → (on_block_word recovery found).told ≡ Recovered
passed-told recovery found last other = by (block_in found) refl
  where
    of_client : (client class : ℕ) → block_in found ≡ Some (Owned client class) → (t : Bool) → (client == recovery.client) ≡ t → (on_block recovery (Some (Owned client class))).told ≡ Recovered
    of_client client class is true own =
        let owner : client ≡ recovery.client = grind (arith, nat_tests) in
        absurd (other class (is ∙ ap (λ k. Some (Owned k class)) owner))
    of_client client class is false not = rw not (past-told recovery last)

    by : (block : Option BlockWord) → block_in found ≡ block → (on_block recovery block).told ≡ Recovered
    by None is = past-told recovery last
    by (Some Unused) is = past-told recovery last
    by (Some (Released class)) is = past-told recovery last
    by (Some (Owned client class)) is = of_client client class is (client == recovery.client) refl

pub done-told : (recovery : Recovery) (answer : Answer) → IsDone recovery answer → (turn recovery answer).told ≡ Recovered
done-told recovery answer (last, (found, answered, inl (at, other))) =
    ap (λ a. (turn recovery a).told) answered ∙ ap (λ stage. (turn_at stage recovery (Word found)).told) at ∙ passed-told recovery found last other
done-told recovery answer (last, (found, answered, inr (class, at))) =
    ap (λ a. (turn recovery a).told) answered ∙ ap (λ stage. (turn_at stage recovery (Word found)).told) at ∙ past-told recovery last

-- The clauses of a turn.

pub sealed-iff : (now : Recovery) (answer : Answer) (told : Recovering) (word : ℕ) → IsKept now → told ≡ (turn now answer).told → (told ≡ NotYet (why.Sealed word)) ↔ IsSealed now answer word
sealed-iff now answer told word kept says =
    (λ is. subst (SaysOf now.stage now answer) (sym says ∙ is) (turn-says now.shape now.client now answer kept), λ is. says ∙ sealed-told now answer word is)

pub lost-iff : (now : Recovery) (answer : Answer) (told : Recovering) (node : ℕ) → IsKept now → told ≡ (turn now answer).told
    → (told ≡ NotYet (why.Lost node)) ↔ ((answer ≡ Lost) × (node ≡ (place_of (next now)).node))
lost-iff now answer told node kept says =
    (λ is. subst (SaysOf now.stage now answer) (sym says ∙ is) (turn-says now.shape now.client now answer kept), λ is. says ∙ lost-told now answer node is)

pub unchanged-iff : (now : Recovery) (answer : Answer) (told : Recovering) (slot word : ℕ) → IsKept now → told ≡ (turn now answer).told → (told ≡ NotYet (why.Unchanged slot word)) ↔ IsUnchanged now answer slot word
unchanged-iff now answer told slot word kept says =
    (λ is. subst (SaysOf now.stage now answer) (sym says ∙ is) (turn-says now.shape now.client now answer kept), λ is. says ∙ unchanged-told now.shape now.client now answer slot word kept is)

pub done-iff : (now : Recovery) (answer : Answer) (told : Recovering) → IsKept now → told ≡ (turn now answer).told → (told ≡ Recovered) ↔ IsDone now answer
done-iff now answer told kept says =
    (λ is. subst (SaysOf now.stage now answer) (sym says ∙ is) (turn-says now.shape now.client now answer kept), λ is. says ∙ done-told now answer is)
