-- The slots that have another deciding word: found one after the other, made room for, and decided.
use Rattle.std.proofs.Common.{◌≡◌, ◌≢◌, ℕ, zero, suc, ◌+◌, ◌<◌, ◌≤◌, ◌==◌, true, false, if◌then◌else◌, List, [], ◌∷◌, ◌++◌, length, map, get_or, take, refl, sym, ap, subst, ◌∙◌, arith, append-nil, Option, slice_index}
use Rattle.std.specs.List.{range_with_len}
use Rattle.std.proofs.lemmas.Bool.Decides.{nat_tests}
use Rattle.std.proofs.lemmas.Grind.{flat_map-append}
use Rattle.std.proofs.lemmas.List.{map-id, take_all, take_more}
use Rattle.std.proofs.lemmas.List.Elements.{All-append, All-push}
use Rattle.std.proofs.lemmas.List.FromFn.{get_or-map-range_with_len, map-range_with_len_more}
use Rattle.machine_world.specs.Ledger.{Caller, decided_at}
use Rattle.world_core.specs.Openings.{AreBelow, AreRising, Change, HasDecisionRooms, HasRoomFor, change_at, changes_of}
use Rattle.world_ledger.specs.Kept.{HasDecisionRoom, HasEntryRoom, Kept, decision_room}

-- Found one after the other.

range_more : (n : ℕ) → range_with_len 0 (n + 1) ≡ range_with_len 0 n ++ n ∷ []
range_more n =
    sym (map-id (range_with_len 0 (n + 1)))
    ∙ map-range_with_len_more (λ k. k) 0 n n (omega arith)
    ∙ ap (λ numbers. numbers ++ n ∷ []) (map-id (range_with_len 0 n))

changes_more : (before now : ℕ → ℕ) (caller : ℕ → Option Caller) (slot : ℕ)
    → changes_of before now caller (range_with_len 0 (slot + 1)) ≡ changes_of before now caller (range_with_len 0 slot) ++ change_at before now caller slot
changes_more before now caller slot =
    ap (changes_of before now caller) (range_more slot)
    ∙ flat_map-append (change_at before now caller) (range_with_len 0 slot) (slot ∷ [])
    ∙ ap (λ changes. changes_of before now caller (range_with_len 0 slot) ++ changes) (append-nil (change_at before now caller slot))

-- a slot has another word
pub change_found : (before now : ℕ → ℕ) (caller : ℕ → Option Caller) (slot replaced word : ℕ) (found : Option Caller) (changes : List Change)
    → replaced ≡ before slot → word ≡ now slot → replaced ≢ word → found ≡ caller word
    → changes ≡ changes_of before now caller (range_with_len 0 slot)
    → changes ++ record { slot = slot; replaced = replaced; caller = found } ∷ [] ≡ changes_of before now caller (range_with_len 0 (slot + 1))
change_found before now caller slot replaced word found changes was is differs called so_far =
    let other : (before slot == now slot) ≡ false = let test : (replaced == word) ≡ false = grind (arith, nat_tests) in (λ i. sym was i == sym is i) ∙ test in
    let here : change_at before now caller slot ≡ record { slot = slot; replaced = before slot; caller = caller (now slot) } ∷ [] = rw other refl in
    let one : record { slot = slot; replaced = replaced; caller = found } ≡ record { slot = slot; replaced = before slot; caller = caller (now slot) }
    = λ i. let change : Change = record { slot = slot; replaced = was i; caller = (called ∙ ap caller is) i } in change in
    (λ i. so_far i ++ one i ∷ [])
    ∙ ap (λ last. changes_of before now caller (range_with_len 0 slot) ++ last) (sym here)
    ∙ sym (changes_more before now caller slot)

-- a slot has the same word
pub change_none : (before now : ℕ → ℕ) (caller : ℕ → Option Caller) (slot replaced word : ℕ) (changes : List Change)
    → replaced ≡ before slot → word ≡ now slot → replaced ≡ word
    → changes ≡ changes_of before now caller (range_with_len 0 slot) → changes ≡ changes_of before now caller (range_with_len 0 (slot + 1))
change_none before now caller slot replaced word changes was is same so_far =
    let alike : (before slot == now slot) ≡ true = let test : (replaced == word) ≡ true = grind (arith, nat_tests) in (λ i. sym was i == sym is i) ∙ test in
    let here : change_at before now caller slot ≡ [] = rw alike refl in
    so_far
    ∙ sym (append-nil (changes_of before now caller (range_with_len 0 slot)))
    ∙ ap (λ last. changes_of before now caller (range_with_len 0 slot) ++ last) (sym here)
    ∙ sym (changes_more before now caller slot)

-- by the same words before
changes_alike : (before other now : ℕ → ℕ) (caller : ℕ → Option Caller) (a n : ℕ) → ((k : ℕ) → a ≤ k → k < a + n → before k ≡ other k)
    → changes_of before now caller (range_with_len a n) ≡ changes_of other now caller (range_with_len a n)
changes_alike before other now caller a zero same = refl
changes_alike before other now caller a (suc n) same =
    let at : ℕ → List Change = λ word. if word == now a then [] else record { slot = a; replaced = word; caller = caller (now a) } ∷ [] in
    let first = same a (omega arith) (omega arith) in
    let rest = changes_alike before other now caller (a + 1) n (λ k least below. same k (omega arith) (omega arith)) in
    λ i. at (first i) ++ rest i

-- the words before, as a list
pub changes_listed : (f now : ℕ → ℕ) (caller : ℕ → Option Caller) (words : List ℕ) (n : ℕ) → words ≡ map f (range_with_len 0 n)
    → changes_of (slice_index words) now caller (range_with_len 0 n) ≡ changes_of f now caller (range_with_len 0 n)
changes_listed f now caller words n listed =
    changes_alike (slice_index words) f now caller 0 n
    (λ k least below. ap (λ list. get_or list k 0) listed ∙ get_or-map-range_with_len f 0 n k k 0 (omega arith) (omega arith))

-- Where they are.

rising_from : (least more : ℕ) (changes : List Change) → least ≤ more → AreRising more changes → AreRising least changes
rising_from least more [] above rising = tt
rising_from least more (change ∷ changes) above rising = (omega (arith, rising.0), rising.1)

pub changes_rising : (before now : ℕ → ℕ) (caller : ℕ → Option Caller) (a n : ℕ) → AreRising a (changes_of before now caller (range_with_len a n))
changes_rising before now caller a zero = tt
changes_rising before now caller a (suc n) =
    let rest = changes_of before now caller (range_with_len (a + 1) n) in
    let rising = changes_rising before now caller (a + 1) n in
    elim (before a == now a) as (λ b. AreRising a ((if b then [] else record { slot = a; replaced = before a; caller = caller (now a) } ∷ []) ++ rest)) [
      | true ↦ rising_from a (a + 1) rest (omega arith) rising
      | false ↦ (omega arith, rising)
    ]

all_one : (end : ℕ) (change : Change) → change.slot < end → AreBelow end (change ∷ [])
all_one end change below zero d within = below
all_one end change below (suc k) d within = absurd (omega arith)

none_below : (end : ℕ) → AreBelow end []
none_below end k d within = absurd (omega arith)

pub changes_below : (before now : ℕ → ℕ) (caller : ℕ → Option Caller) (a n end : ℕ) → a + n ≤ end → AreBelow end (changes_of before now caller (range_with_len a n))
changes_below before now caller a zero end fits = none_below end
changes_below before now caller a (suc n) end fits =
    let rest = changes_of before now caller (range_with_len (a + 1) n) in
    let below = changes_below before now caller (a + 1) n end (omega arith) in
    elim (before a == now a) as (λ b. AreBelow end ((if b then [] else record { slot = a; replaced = before a; caller = caller (now a) } ∷ []) ++ rest)) [
      | true ↦ below
      | false ↦ All-append (λ change. change.slot < end) (record { slot = a; replaced = before a; caller = caller (now a) } ∷ []) rest (all_one end _ (omega arith)) below
    ]

rising_above : (least : ℕ) (changes : List Change) → AreRising least changes → (k : ℕ) (d : Change) → k < length changes → least ≤ (get_or changes k d).slot
rising_above least [] rising k d within = absurd (omega arith)
rising_above least (change ∷ changes) rising zero d within = rising.0
rising_above least (change ∷ changes) rising (suc k) d within =
    let above = rising_above (change.slot + 1) changes rising.1 k d (omega arith) in omega (arith, rising.0)

-- Room.

-- there is room for one change more
pub rooms_more : (kept made : Kept) (changes : List Change) (i slot : ℕ) (change : Change)
    → made.ledger ≡ kept.ledger → ((other : ℕ) → decision_room kept other ≤ decision_room made other) → slot ≡ change.slot → HasDecisionRoom made slot
    → i < length changes → change ≡ get_or changes i change
    → HasDecisionRooms kept (take i changes) → HasDecisionRooms made (take (i + 1) changes)
rooms_more kept made changes i slot change same more named room within is rooms =
    let before : HasDecisionRooms made (take i changes) = λ k d below.
    let other = (get_or (take i changes) k d).slot in
    let had = rooms k d below in
    let decided : length (decided_at made.ledger other) ≡ length (decided_at kept.ledger other) = ap (λ ledger. length (decided_at ledger other)) same in
    omega (arith, had, decided, more other) in
    let one : take (i + 1) changes ≡ take i changes ++ change ∷ [] = take_more changes i change within ∙ ap (λ last. take i changes ++ last ∷ []) (sym is) in
    subst (HasDecisionRooms made) (sym one) (All-push (λ c. HasDecisionRoom made c.slot) (take i changes) change before (subst (HasDecisionRoom made) named room))

pub entry_room : (kept made : Kept) (count : ℕ) → made.ledger ≡ kept.ledger → made.rooms.entries ≡ kept.rooms.entries → HasEntryRoom kept count → HasEntryRoom made count
entry_room kept made count same rooms room =
    let entries : length made.ledger.entries ≡ length kept.ledger.entries = ap (λ ledger. length ledger.entries) same in omega (arith, entries, rooms, room)

pub rooms_of_all : (kept : Kept) (changes : List Change) (i : ℕ) → length changes ≤ i → HasEntryRoom kept (length changes) → HasDecisionRooms kept (take i changes) → HasRoomFor kept changes
rooms_of_all kept changes i past entries rooms = record { entries = entries; decisions = subst (HasDecisionRooms kept) (take_all i changes past) rooms }

-- the first change is decided: there is room for the others
pub room_for_others : (kept made : Kept) (change : Change) (changes : List Change) (least : ℕ)
    → HasRoomFor kept (change ∷ changes) → AreRising least (change ∷ changes)
    → made.rooms ≡ kept.rooms → length made.ledger.entries ≤ length kept.ledger.entries + 1
    → ((other : ℕ) → other ≢ change.slot → decided_at made.ledger other ≡ decided_at kept.ledger other)
    → HasRoomFor made changes
room_for_others kept made change changes least room rising rooms entries others = record {
  entries = let same : made.rooms.entries ≡ kept.rooms.entries = ap (λ (r : _). r.entries) rooms in omega (arith, same, entries, room.entries);
  decisions = λ k d within.
      let slot = (get_or changes k d).slot in
      let above = rising_above (change.slot + 1) changes rising.1 k d within in
      let had : length (decided_at kept.ledger slot) < decision_room kept slot = room.decisions (suc k) d (omega (arith, within)) in
      let decided : length (decided_at made.ledger slot) ≡ length (decided_at kept.ledger slot) = ap length (others slot (λ same. absurd (omega (arith, same, above)))) in
      let same : decision_room made slot ≡ decision_room kept slot = ap (λ r. get_or r.decided slot 0) rooms in
      omega (arith, had, decided, same);
}

pub nothing_left : (changes : List Change) → length changes ≡ 0 → changes ≡ []
nothing_left [] none = refl
nothing_left (change ∷ changes) none = absurd (omega arith)
