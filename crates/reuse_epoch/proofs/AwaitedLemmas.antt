-- How lists of clients that are waited for stay as they should be, and why one has room.
use Rattle.std.proofs.Common.{◌≡◌, ℕ, zero, suc, ◌+◌, ◌%◌, ◌<◌, ◌≤◌, Bool, true, false, not, ◌==◌, ◌||◌, inl, inr, List, [], ◌∷◌, ◌++◌, length, get_or, filter, All, Contains, refl, ◌∙◌, ap, arith}
use Rattle.std.proofs.lemmas.Bool.{cases_Bool}
use Rattle.std.proofs.lemmas.Bool.Decides.{eqb_tells, Decides-eqb}
use Rattle.std.proofs.lemmas.List.Elements.{All-nil, All-push, All-filter, All-contains, All-contains_itself, filter_passes, Contains-push, Contains-append_left, Contains-append_right, Contains-append_cases}
use Rattle.std.proofs.lemmas.List.Kept.{AllPairs-filter}
use Rattle.std.proofs.lemmas.List.Quantifiers.{all_pairs_push}
use Rattle.reuse_epoch.specs.declared.grace.TheConstants.{MOST_CLIENTS}
use Rattle.reuse_epoch.specs.Awaited.{Awaited, client_of, begin_of, IsClient, IsAwaited, noted, is_still_awaited, still_awaited}

-- nobody is waited for
pub IsAwaited-nothing : IsAwaited []
IsAwaited-nothing = record {
  rising = λ i j d before within. absurd (omega arith);
  clients = All-nil (λ one. IsClient (client_of one));
  odd = All-nil (λ one. begin_of one % 2 ≡ 1);
}

-- one more client, with a higher number and an odd begin word
pub IsAwaited-push : (list : List Awaited) (client begin : ℕ)
    → IsAwaited list → IsClient client → All (λ one. client_of one < client) list → begin % 2 ≡ 1
    → IsAwaited (list ++ (client, begin) ∷ [])
IsAwaited-push list client begin is known last odd = record {
  rising = all_pairs_push (λ one later. client_of one < client_of later) list (client, begin) is.rising last;
  clients = All-push (λ one. IsClient (client_of one)) list (client, begin) is.clients known;
  odd = All-push (λ one. begin_of one % 2 ≡ 1) list (client, begin) is.odd odd;
}

-- a list stays as it should be when a client is noted
pub IsAwaited-noted : (list : List Awaited) (client begin : ℕ)
    → IsAwaited list → IsClient client → All (λ one. client_of one < client) list
    → IsAwaited (noted list client begin)
IsAwaited-noted list client begin is known last =
    elim (eqb_tells (begin % 2) 1) [
      | inl odd ↦ rw odd.0 (IsAwaited-push list client begin is known last odd.1)
      | inr even ↦ rw even.0 is
    ]

-- and when a client is seen
pub IsAwaited-still_awaited : (list : List Awaited) (client begin : ℕ)
    → IsAwaited list → IsAwaited (still_awaited list client begin)
IsAwaited-still_awaited list client begin is = record {
  rising = AllPairs-filter (λ one later. client_of one < client_of later) (is_still_awaited client begin) list is.rising;
  clients = All-filter (is_still_awaited client begin) (λ one. IsClient (client_of one)) list is.clients;
  odd = All-filter (is_still_awaited client begin) (λ one. begin_of one % 2 ≡ 1) list is.odd;
}

-- a client has at least the number of its place, since the numbers rise
place_below : (list : List Awaited) (d : Awaited) (place : ℕ)
    → IsAwaited list → place < length list → place < client_of (get_or list place d)
place_below list d zero is within = (is.clients zero d within).0
place_below list d (suc place) is within =
    let before = place_below list d place is (omega arith) in
    let rises = is.rising place (suc place) d (omega arith) within in
    omega (arith, before, rises)

-- there are fewer clients than the number of one that comes after them
pub length-lt : (list : List Awaited) (client : ℕ)
    → IsAwaited list → 0 < client → All (λ one. client_of one < client) list → length list < client
length-lt [] client is some last = omega arith
length-lt (first ∷ rest) client is some last =
    let place = length rest in
    let within : place < length (first ∷ rest) = omega arith in
    let below = place_below (first ∷ rest) first place is within in
    let above = last place first within in
    omega (arith, below, above)

-- there are no more clients in a list than there are clients
pub length-le : (list : List Awaited) → IsAwaited list → length list ≤ MOST_CLIENTS
length-le list is =
    let last : All (λ one. client_of one < MOST_CLIENTS + 1) list =
    λ k d within. omega (arith, (is.clients k d within).1) in
    let fewer = length-lt list (MOST_CLIENTS + 1) is (omega arith) last in
    omega (arith, fewer)

-- ---- who is in the list

-- a client that was noted at an odd begin word is in the list
pub Contains-noted : (list : List Awaited) (client begin : ℕ)
    → begin % 2 ≡ 1 → Contains (noted list client begin) (client, begin)
Contains-noted list client begin odd =
    let test : (begin % 2 == 1) ≡ true = (Decides-eqb (begin % 2) 1).1 odd in
    rw test (Contains-push list (client, begin))

-- who was in the list stays when a client is noted
pub Contains-noted_before : (list : List Awaited) (client begin : ℕ) (one : Awaited)
    → Contains list one → Contains (noted list client begin) one
Contains-noted_before list client begin one has =
    elim (eqb_tells (begin % 2) 1) [
      | inl odd ↦ rw odd.0 (Contains-append_left list ((client, begin) ∷ []) one has)
      | inr even ↦ rw even.0 has
    ]

-- an element that passes a test is in what the test keeps
Contains-filter : (test : Awaited → Bool) (list : List Awaited) (one : Awaited)
    → test one ≡ true → Contains list one → Contains (filter test list) one
Contains-filter test [] one passes has = has
Contains-filter test (first ∷ rest) one passes has =
    elim (Contains-append_cases (first ∷ []) rest one has) [
      | inl at ↦
          let place : at.0 ≡ 0 = omega (arith, at.1) in
          let same : first ≡ one = rw place at at.2 in
          let keeps : test first ≡ true = ap test same ∙ passes in
          rw keeps (0, omega arith, same)
      | inr later ↦
          let rec = Contains-filter test rest one passes later in
          elim (cases_Bool (test first)) [
            | inl keeps ↦ rw keeps (Contains-append_right (first ∷ []) (filter test rest) one rec)
            | inr drops ↦ rw drops rec
          ]
    ]

still_so : (same_client same_begin : Bool)
    → (same_client ≡ true → same_begin ≡ true) → (not same_client || same_begin) ≡ true
still_so true same_begin so = so refl
still_so false same_begin so = refl

so_still : (same_client same_begin : Bool)
    → (not same_client || same_begin) ≡ true → same_client ≡ true → same_begin ≡ true
so_still true same_begin still same = still
so_still false same_begin still same = cc

-- who is in the list stays when a client is seen, but for that client at another begin word
pub Contains-still_awaited : (list : List Awaited) (client begin : ℕ) (one : Awaited)
    → Contains list one → (client_of one ≡ client → begin_of one ≡ begin) → Contains (still_awaited list client begin) one
Contains-still_awaited list client begin one has same =
    Contains-filter (is_still_awaited client begin) list one
    (still_so (client_of one == client) (begin_of one == begin)
    (λ is. (Decides-eqb (begin_of one) begin).1 (same ((Decides-eqb (client_of one) client).0 is)))) has

-- who stays was in the list
pub Contains-before_seen : (list : List Awaited) (client begin : ℕ) (one : Awaited)
    → Contains (still_awaited list client begin) one → Contains list one
Contains-before_seen list client begin one has =
    All-contains (Contains list) (still_awaited list client begin) one
    (All-filter (is_still_awaited client begin) (Contains list) list (All-contains_itself list)) has

-- and is not the client that was seen at another begin word
pub same_begin-still_awaited : (list : List Awaited) (client begin : ℕ) (one : Awaited)
    → Contains (still_awaited list client begin) one → client_of one ≡ client → begin_of one ≡ begin
same_begin-still_awaited list client begin one has is =
    let keeps = filter_passes (is_still_awaited client begin) list in
    let passes = All-contains (λ other. is_still_awaited client begin other ≡ true) (still_awaited list client begin) one keeps has in
    (Decides-eqb (begin_of one) begin).0
    (so_still (client_of one == client) (begin_of one == begin) passes ((Decides-eqb (client_of one) client).1 is))
