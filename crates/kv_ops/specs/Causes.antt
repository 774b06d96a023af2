-- What the steps of a call stand on: the stage at which the verb was answered, and the answer.
use Rattle.std.specs.Prelude.{◌≡◌, ℕ, ◌+◌, ◌⊎◌, length, Some, None}
use Rattle.kv_find.specs.Passed.{PassesOver}
use Rattle.machine.specs.declared.choosing.Took.TheVariants as took
use Rattle.machine.specs.declared.client_call.Outcome.{Outcome}
use Rattle.machine.specs.declared.client_call.Outcome.TheVariants as outcome
use Rattle.machine.specs.declared.client_call.Step.{Step}
use Rattle.machine.specs.declared.client_call.Step.TheVariants.{Going, Ended, NotYet}
use Rattle.machine.specs.declared.key_test.Tested.TheVariants as tested
use Rattle.machine.specs.declared.resolution.Resolved.TheVariants as resolved
use Rattle.machine.specs.declared.slot_write.Wrote.TheVariants as wrote
use Rattle.machine.specs.Choosing as choosing
use Rattle.machine.specs.Client.{fresh_of, kept_of, next, slot_of}
use Rattle.machine.specs.EpochRead.{open_mask}
use Rattle.machine.specs.KeySearch as search
use Rattle.machine.specs.KeySearch.{KeySearch}
use Rattle.machine.specs.KeyTest as test
use Rattle.machine.specs.KeyTest.{KeyTest}
use Rattle.machine.specs.ObjectNames.{candidate_in}
use Rattle.machine.specs.Resolution as resolution
use Rattle.machine.specs.Resolution.{Resolution}
use Rattle.machine.specs.SlotWrite as slots
use Rattle.machine.specs.SlotWrite.{SlotWrite, judged}
use Rattle.machine.specs.Stage.{Client, Kept, Stage, Idle, Start, ReadEpoch, Pause, Paused, LostNode, Choose, Find, WriteSlot, AwaitRound, TestKey, Resolve, End}
use Rattle.slot_order.specs.Slots.{order_of}
use Rattle.snapshot_rules.specs.declared.rules.Verdict.TheVariants.{Lose}
use Rattle.verb_words.specs.declared.verbs.Answer.{Answer}
use Rattle.verb_words.specs.declared.verbs.Answer.TheVariants.{Word, Done, Lost}
use Rattle.verb_words.specs.declared.verbs.Why.TheVariants as why
use Rattle.verb_words.specs.Verb.{place_of}

-- the verb of the stage is taken under the view that is held
abbrev pub IsUnderView : Stage → Type 0
IsUnderView Idle = ⊥
IsUnderView Start = ⊥
IsUnderView ReadEpoch = ⊥
IsUnderView (Pause word kept) = ⊥
IsUnderView (Paused word kept) = ⊥
IsUnderView (LostNode node kept) = ⊥
IsUnderView (AwaitRound write) = ⊥
IsUnderView End = ⊥
IsUnderView stage = Unit {0}

-- the stage reads the epoch word
abbrev pub ReadsEpoch : Stage → Type 0
ReadsEpoch ReadEpoch = Unit {0}
ReadsEpoch (Paused word kept) = Unit {0}
ReadsEpoch (LostNode node kept) = Unit {0}
ReadsEpoch (AwaitRound write) = Unit {0}
ReadsEpoch stage = ⊥

-- the call stands paused at an epoch word, and has read that same word, which opens no mask
abbrev pub StaysSealed : Client → Answer → ℕ → Type 0
StaysSealed client answer word =
    ((kept : Kept) × (client.stage ≡ Paused word kept)) × (answer ≡ Word word) × (open_mask client.shape word ≡ None)

-- the verb's node is lost
abbrev pub IsRefused : Client → Answer → ℕ → Type 0
IsRefused client answer node = IsUnderView client.stage × (answer ≡ Lost) × (node ≡ (place_of (next client)).node)

-- the call stands at a lost node, and has read an epoch word that opens a mask
abbrev pub StaysLost : Client → Answer → ℕ → Type 0
StaysLost client answer node =
    ((kept : Kept) × (client.stage ≡ LostNode node kept))
    × ((word : ℕ) × (mask : ℕ) × (answer ≡ Word word) × (open_mask client.shape word ≡ Some mask))

-- the call writes its slot, the backups' words name another writer, and the primary was read as the expected word
abbrev pub StaysUnchanged : Client → Answer → ℕ → ℕ → Type 0
StaysUnchanged client answer slot word =
    (write : SlotWrite) × (client.stage ≡ WriteSlot write) × (write.phase ≡ slots.Wait) × (judged write.list write.fresh ≡ Lose)
    × (answer ≡ Word word) × (word ≡ write.expect) × (slot ≡ slot_of client)

-- the begin word is written even, and the call returns as it was to
abbrev pub Returns : Client → Answer → Outcome → Type 0
Returns client answer result = (client.stage ≡ End) × (answer ≡ Done) × (result ≡ client.outcome)

-- what a step tells, and why
abbrev pub Tells : Client → Answer → Step → Type 0
Tells client answer Going = Unit {0}
Tells client answer (Ended result) = Returns client answer result
Tells client answer (NotYet (why.Sealed word)) = StaysSealed client answer word
Tells client answer (NotYet (why.Lost node)) = IsRefused client answer node ⊎ StaysLost client answer node
Tells client answer (NotYet (why.Unchanged slot word)) = StaysUnchanged client answer slot word

-- how a call comes to a stage outside its view
abbrev pub Enters : Client → Answer → Stage → Type 0
Enters client answer (LostNode node kept) =
    (client.stage ≡ LostNode node kept) ⊎ (IsRefused client answer node × (kept ≡ kept_of client.stage))
Enters client answer (Pause word kept) =
    (client.stage ≡ Pause word kept) ⊎ (ReadsEpoch client.stage × (answer ≡ Word word) × (open_mask client.shape word ≡ None))
Enters client answer (Paused word kept) = (client.stage ≡ Paused word kept) ⊎ ((client.stage ≡ Pause word kept) × (answer ≡ Done))
Enters client answer stage = Unit {0}

-- the place is the last of the key's order
abbrev pub IsLastPlace : Client → ℕ → Type 0
IsLastPlace client place = place + 1 ≡ length (order_of client.key client.shape.groups)

-- the search passes the slot at its place over: by kv_find's reasons, or since the slot has the call's own word
abbrev pub FindPasses : Client → KeySearch → Answer → Type 0
FindPasses client key_search answer =
    PassesOver key_search answer ⊎ ((key_search.phase ≡ search.AtSlot) × (answer ≡ Word (fresh_of client)))

-- the slot at the call's place, which was to be empty, has come to have another key's word
abbrev pub HasOtherKey : Client → Answer → Type 0
HasOtherKey client answer =
    ((write : SlotWrite) × (word : ℕ) × (client.stage ≡ WriteSlot write) × ((slots.turn write answer).told ≡ wrote.Changed word)
    × (client.expect ≡ 0) × (candidate_in client.shape client.key word ≡ None))
    ⊎ ((key_test : KeyTest) × (client.stage ≡ TestKey key_test) × ((test.turn key_test answer).told ≡ tested.Other))
    ⊎ ((resolving : Resolution) × (client.stage ≡ Resolve resolving) × ((resolution.turn resolving answer).told ≡ resolved.OtherKey))

-- the answer passes over the slot at this place of the key's order
abbrev pub PassesPlace : Client → Answer → ℕ → Type 0
PassesPlace client answer place =
    ((key_search : KeySearch) × (client.stage ≡ Find key_search) × (key_search.place ≡ place) × FindPasses client key_search answer)
    ⊎ (HasOtherKey client answer × (client.place ≡ place))

-- how a call is to return, and why: it is full once the slot at the last place is passed over, and has no space where the
-- choosing tells so
abbrev pub Results : Client → Answer → Outcome → Type 0
Results client answer outcome.Full =
    (client.outcome ≡ outcome.Full) ⊎ ((place : ℕ) × PassesPlace client answer place × IsLastPlace client place)
Results client answer (outcome.NoSpace class awaited begin) =
    (client.outcome ≡ outcome.NoSpace class awaited begin)
    ⊎ ((client.stage ≡ Choose) × ((choosing.turn client.stock answer).told ≡ took.NoSpace class awaited begin))
Results client answer result = Unit {0}
