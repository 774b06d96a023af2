-- What a step of a call tells, it tells exactly for its cause.
use Rattle.std.proofs.Common.{◌≡◌, ℕ, ◌==◌, ◌⊎◌, inl, inr, true, refl, sym, ap, subst, ◌∙◌, eq-eqb}
use Rattle.std.specs.Prelude.{◌↔◌}
use Rattle.kv_ops.proofs.CausedLemmas.{caused}
use Rattle.kv_ops.proofs.StageLemmas.{finds-other}
use Rattle.kv_ops.specs.Causes.{IsRefused, IsUnderView, Returns, StaysLost, StaysSealed, StaysUnchanged, Tells}
use Rattle.machine.specs.declared.choosing.Took.{Took}
use Rattle.machine.specs.declared.client_call.Outcome.{Outcome}
use Rattle.machine.specs.declared.client_call.Step.{Step}
use Rattle.machine.specs.declared.client_call.Step.TheVariants.{Ended, NotYet}
use Rattle.machine.specs.declared.key_search.Found.{Found}
use Rattle.machine.specs.declared.key_search.Found.TheVariants as found_as
use Rattle.machine.specs.declared.resolution.Resolved.{Resolved}
use Rattle.machine.specs.declared.resolution.Resolved.TheVariants as resolved
use Rattle.machine.specs.declared.slot_write.Wrote.{Wrote}
use Rattle.machine.specs.declared.slot_write.Wrote.TheVariants as wrote
use Rattle.machine.specs.Client.{on_find, on_lost, on_paused, on_resolved, on_seek, on_took, on_wrote, told, turn_at, verb_at}
use Rattle.machine.specs.KeySearch as search
use Rattle.machine.specs.KeySearch.{KeySearch}
use Rattle.machine.specs.Resolution as resolution
use Rattle.machine.specs.Resolution.{Resolution}
use Rattle.machine.specs.SlotWrite as slots
use Rattle.machine.specs.SlotWrite.{SlotWrite}
use Rattle.machine.specs.Stage.{Client, Kept, Stage, Idle, Start, ReadEpoch, Pause, Paused, LostNode, Seek, Fetch, Choose, Clear, Body, Find, ReadVersion, Log, WriteSlot, AwaitRound, TestKey, Resolve, Free, Return, End}
use Rattle.machine.specs.Standing.{IsClient}
use Rattle.machine.specs.Turn.{Turn}
use Rattle.machine.specs.Stock.{Stock}
use Rattle.object_alloc.proofs.TurnLemmas.{turn_lost}
use Rattle.region_view.specs.Sizes.{Sizes}
use Rattle.verb_words.specs.declared.verbs.Answer.{Answer}
use Rattle.verb_words.specs.declared.verbs.Answer.TheVariants.{Word, Lost}
use Rattle.verb_words.specs.declared.verbs.Why.TheVariants as why
use Rattle.verb_words.specs.Verb.{place_of}

-- A cause leads to what is told.

returns-told : (client : Client) (answer : Answer) (result : Outcome) → Returns client answer result → told client answer ≡ Ended result
returns-told client answer result is = (λ i. (turn_at (is.0 i) client (is.1 i)).told) ∙ ap Ended (sym is.2)

sealed-told : (client : Client) (answer : Answer) (word : ℕ) → StaysSealed client answer word → told client answer ≡ NotYet (why.Sealed word)
sealed-told client answer word is =
    let same : (word == word) ≡ true = eq-eqb word word refl in
    (λ i. (turn_at (is.0.1 i) client (is.1 i)).told) ∙ stays is.0.0 same
  where
    stays : (kept : Kept) → (word == word) ≡ true → (on_paused client word kept word).told ≡ NotYet (why.Sealed word)
    stays kept same = rw (is.2, same) refl

lost-told : (client : Client) (answer : Answer) (node : ℕ) → StaysLost client answer node → told client answer ≡ NotYet (why.Lost node)
lost-told client answer node is = (λ i. (turn_at (is.0.1 i) client (is.1.2 i)).told) ∙ stays is.0.0
  where
    stays : (kept : Kept) → (on_lost client node kept is.1.0).told ≡ NotYet (why.Lost node)
    stays kept = rw is.1.3 refl

-- a search, and a resolving, that the node refuses
search-lost : (key_search : KeySearch) → (search.turn key_search Lost).told ≡ found_as.Refused (place_of (search.next key_search)).node
search-lost key_search = at key_search.phase refl
  where
    at : (phase : search.Phase) → key_search.phase ≡ phase → (search.turn_at phase key_search Lost).told ≡ found_as.Refused (place_of (search.verb_at phase key_search)).node
    at search.AtSlot here = λ i. found_as.Refused (place_of (search.verb_at (here i) key_search)).node
    at (search.AtKey word key_test) here = refl

resolution-lost : (phase : resolution.Phase) (resolving : Resolution) → (resolution.turn_at phase resolving Lost).told ≡ resolved.Refused (place_of (resolution.verb_at phase resolving)).node
resolution-lost resolution.AtSlot resolving = refl
resolution-lost (resolution.AtKey key_test) resolving = refl
resolution-lost (resolution.AtVersion object before) resolving = refl
resolution-lost (resolution.AtExpected object version) resolving = refl

refused-at : (stage : Stage) (client : Client) → IsUnderView stage → (turn_at stage client Lost).told ≡ NotYet (why.Lost (place_of (verb_at stage client)).node)
refused-at Idle client under = absurd under
refused-at Start client under = absurd under
refused-at ReadEpoch client under = absurd under
refused-at (Pause word kept) client under = absurd under
refused-at (Paused word kept) client under = absurd under
refused-at (LostNode node kept) client under = absurd under
refused-at (AwaitRound write) client under = absurd under
refused-at End client under = absurd under
refused-at (Seek key_search) client under = ap (λ (t : Found). (on_seek client (search.turn key_search Lost).state t).told) (search-lost key_search)
refused-at (Fetch value_read) client under = refl
refused-at Choose client under = ap (λ (t : Turn Stock Took). (on_took client t.state t.told).told) (turn_lost client.stock.phase client.stock)
refused-at (Clear change) client under = refl
refused-at (Body write) client under = refl
refused-at (Find key_search) client under =
    ap (λ (t : Turn Client Step). t.told) (finds-other client key_search Lost (inl refl))
    ∙ ap (λ (t : Found). (on_find client (search.turn key_search Lost).state t).told) (search-lost key_search)
refused-at (ReadVersion word) client under = refl
refused-at (Log write) client under = refl
refused-at (WriteSlot write) client under = refl
refused-at (TestKey key_test) client under = refl
refused-at (Resolve resolving) client under = ap (λ (t : Resolved). (on_resolved client (resolution.turn resolving Lost).state t).told) (resolution-lost resolving.phase resolving)
refused-at (Free change) client under = refl
refused-at (Return change) client under = refl

refused-told : (client : Client) (answer : Answer) (node : ℕ) → IsRefused client answer node → told client answer ≡ NotYet (why.Lost node)
refused-told client answer node is = ap (λ a. told client a) is.1 ∙ refused-at client.stage client is.0 ∙ ap (λ n. NotYet (why.Lost n)) (sym is.2)

unchanged-told : (client : Client) (answer : Answer) (slot word : ℕ) → StaysUnchanged client answer slot word → told client answer ≡ NotYet (why.Unchanged slot word)
unchanged-told client answer slot word is =
    let write = is.0 in
    let waits : (slots.turn write (Word word)).told ≡ wrote.Unchanged word = (λ i. (slots.turn_at (is.2 i) write word).told) ∙ reads write (eq-eqb _ _ is.5) in
    (λ i. (turn_at (is.1 i) client (is.4 i)).told)
    ∙ ap (λ (t : Wrote). (on_wrote client (slots.turn write (Word word)).state t).told) waits
    ∙ ap (λ s. NotYet (why.Unchanged s word)) (sym is.6)
  where
    reads : (write : SlotWrite) → (word == write.expect) ≡ true → (slots.turn_at slots.Wait write word).told ≡ wrote.Unchanged word
    reads write same = rw same refl

-- And it is told for no other cause.

tells : (s : Sizes) (n : ℕ) (client : Client) (answer : Answer) (step : Step) → IsClient s n client → told client answer ≡ step → Tells client answer step
tells s n client answer step is told = subst (Tells client answer) told (caused s n client answer is).tells

pub ended-exactly : (s : Sizes) (n : ℕ) (client : Client) (answer : Answer) → IsClient s n client → (result : Outcome) → (told client answer ≡ Ended result) ↔ Returns client answer result
ended-exactly s n client answer is result = (tells s n client answer (Ended result) is, returns-told client answer result)

pub sealed-exactly : (s : Sizes) (n : ℕ) (client : Client) (answer : Answer) → IsClient s n client → (word : ℕ) → (told client answer ≡ NotYet (why.Sealed word)) ↔ StaysSealed client answer word
sealed-exactly s n client answer is word = (tells s n client answer (NotYet (why.Sealed word)) is, sealed-told client answer word)

pub lost-exactly : (s : Sizes) (n : ℕ) (client : Client) (answer : Answer) → IsClient s n client → (node : ℕ)
    → (told client answer ≡ NotYet (why.Lost node)) ↔ (IsRefused client answer node ⊎ StaysLost client answer node)
lost-exactly s n client answer is node = (tells s n client answer (NotYet (why.Lost node)) is, λ cause. by cause)
  where
    by : IsRefused client answer node ⊎ StaysLost client answer node → told client answer ≡ NotYet (why.Lost node)
    by (inl refuses) = refused-told client answer node refuses
    by (inr stays) = lost-told client answer node stays

pub unchanged-exactly : (s : Sizes) (n : ℕ) (client : Client) (answer : Answer) → IsClient s n client → (slot word : ℕ)
    → (told client answer ≡ NotYet (why.Unchanged slot word)) ↔ StaysUnchanged client answer slot word
unchanged-exactly s n client answer is slot word = (tells s n client answer (NotYet (why.Unchanged slot word)) is, unchanged-told client answer slot word)
