-- What an accepted line tells, and what it does to what is known of each client.
use Rattle.std.proofs.Common.{◌≡◌, ◌≢◌, ℕ, ◌+◌, ◌<◌, ◌≤◌, Bool, true, false, ◌&&◌, ◌||◌, if◌then◌else◌, nat_lt, nat_le, length, Option, Some, None, refl, arith}
use Rattle.std.proofs.lemmas.Bool.Decides.{nat_tests}
use Rattle.std.proofs.lemmas.List.{get_or-set_same, get_or-set_other}
use Rattle.std.specs.Int.{abs_diff}
use Rattle.std.specs.Prelude.{max}
use Rattle.lease_core.specs.declared.granting.TheConstants.{CLIENTS}
use Rattle.lease_core.specs.declared.lease_lines.LeaseLine.{LeaseLine}
use Rattle.lease_core.specs.declared.lease_lines.LeaseLine.TheVariants.{Ask, Grant, Take, Verb, Fence}
use Rattle.lease_core.specs.declared.answering.LeaseRefusal.{LeaseRefusal}
use Rattle.lease_core.specs.Book.{Booked, IsClient, is_client, place_of, expiry_of, is_fenced, longer_expiry, after_grant, after_fence}
use Rattle.lease_core.specs.Line.{client_of, client_clock, master_clock}
use Rattle.lease_core.specs.Run.{Run, accepted, ask_of, book_after, has_ask, is_out_of_time, kind_refusal, member_after, member_of, not_asked, not_granted, out_of_time, refusal_of, unknown, ◌or_else◌}

-- ---- tests

pub and_true : (a b : Bool) → (a && b) ≡ true → (a ≡ true) × (b ≡ true)
and_true true b h = (refl, h)
and_true false b h = cc

or_false : (a b : Bool) → (a || b) ≡ false → (a ≡ false) × (b ≡ false)
or_false true b h = cc
or_false false b h = (refl, h)

or_else_none : (first later : Option LeaseRefusal) → (first or_else later) ≡ None → (first ≡ None) × (later ≡ None)
or_else_none None later h = (refl, h)
or_else_none (Some why) later h = cc

none_if : (test : Bool) (why : LeaseRefusal) → (if test then None else Some why) ≡ None → test ≡ true
none_if true why h = refl
none_if false why h = cc

some_if : (test : Bool) (why : LeaseRefusal) → (if test then Some why else None) ≡ None → test ≡ false
some_if true why h = cc
some_if false why h = refl

-- ---- a line that is not refused

pub record InTime (run : Run) (line : LeaseLine) : Type 0 where
  pub known : IsClient (client_of line)
  pub near : abs_diff (client_clock line) (master_clock line) ≤ run.terms.error
  pub client : (member_of run (client_of line)).clock ≤ client_clock line
  pub master : run.clock ≤ master_clock line
  pub kind : kind_refusal run line ≡ None

pub is_known : (client : ℕ) → is_client client ≡ true → IsClient client
is_known client h =
    let parts = and_true (nat_lt 0 client) (nat_le client CLIENTS) h in
    let low : 0 < client = let p : nat_lt 0 client ≡ true = parts.0 in grind (arith, nat_tests) in
    let high : client ≤ CLIENTS = let p : nat_le client CLIENTS ≡ true = parts.1 in grind (arith, nat_tests) in
    (low, high)

not_below : (a b : ℕ) → nat_lt a b ≡ false → b ≤ a
not_below a b h = grind (arith, nat_tests)

pub in_time : (run : Run) (line : LeaseLine) → refusal_of run line ≡ None → InTime run line
in_time run line h =
    let one = or_else_none (unknown line) _ h in
    let two = or_else_none (out_of_time run line) (kind_refusal run line) one.1 in
    let known = none_if (is_client (client_of line)) _ one.0 in
    let clocks = some_if (is_out_of_time run (client_of line) (client_clock line) (master_clock line)) _ two.0 in
    let first = or_false (nat_lt run.terms.error (abs_diff (client_clock line) (master_clock line)) || nat_lt (client_clock line) (member_of run (client_of line)).clock) (nat_lt (master_clock line) run.clock) clocks in
    let both = or_false (nat_lt run.terms.error (abs_diff (client_clock line) (master_clock line))) (nat_lt (client_clock line) (member_of run (client_of line)).clock) first.0 in
    record {
      known = is_known (client_of line) known;
      near = not_below run.terms.error (abs_diff (client_clock line) (master_clock line)) both.0;
      client = not_below (client_clock line) (member_of run (client_of line)).clock both.1;
      master = not_below (master_clock line) run.clock first.1;
      kind = two.1;
    }

pub grant_accepted : (run : Run) (client ask p m : ℕ) → kind_refusal run (Grant client ask p m) ≡ None → (has_ask (member_of run client) ask ≡ true) × (is_fenced run.book client ≡ false)
grant_accepted run client ask p m h =
    let one = or_else_none (not_asked run (Grant client ask p m)) _ h in
    (none_if (has_ask (member_of run client) ask) _ one.0, some_if (is_fenced run.book client) _ one.1)

pub take_accepted : (run : Run) (client ask p m : ℕ) → kind_refusal run (Take client ask p m) ≡ None → (has_ask (member_of run client) ask ≡ true) × ((ask_of (member_of run client) ask).granted ≡ true)
take_accepted run client ask p m h =
    let one = or_else_none (not_asked run (Take client ask p m)) _ h in
    let two = or_else_none (not_granted run (Take client ask p m)) _ one.1 in
    (none_if (has_ask (member_of run client) ask) _ one.0, none_if (ask_of (member_of run client) ask).granted _ two.0)

pub fence_accepted : (run : Run) (client p m : ℕ) → kind_refusal run (Fence client p m) ≡ None → is_fenced run.book client ≡ false
fence_accepted run client p m h = some_if (is_fenced run.book client) _ h

-- ---- the lists have a place for each client

pub record IsWhole (run : Run) : Type 0 where
  pub members : length run.members ≡ CLIENTS
  pub expiries : length run.book.expiries ≡ CLIENTS
  pub fenced : length run.book.fenced ≡ CLIENTS

other_place : (c d : ℕ) → IsClient c → IsClient d → c ≢ d → place_of d ≢ place_of c
other_place c d is_c is_d apart h = apart (omega arith)

in_place : (c n : ℕ) → n ≡ CLIENTS → IsClient c → place_of c < n
in_place c n n_is is_c = omega arith

module _ (run : Run) (line : LeaseLine) (whole : IsWhole run) (known : IsClient (client_of line)) where
  pub member-own : member_of (accepted run line) (client_of line) ≡ member_after (member_of run (client_of line)) line
  member-own = get_or-set_same run.members (place_of (client_of line)) _ _ (in_place (client_of line) (length run.members) whole.members known)

  pub member-other : (d : ℕ) → IsClient d → client_of line ≢ d → member_of (accepted run line) d ≡ member_of run d
  member-other d is_d apart = get_or-set_other run.members (place_of (client_of line)) (place_of d) _ _ (other_place (client_of line) d known is_d apart)

-- ---- what becomes of a client's expiry, and of its being fenced

abbrev pub own_expiry : ℕ → ℕ → Bool → LeaseLine → ℕ
own_expiry length expiry fenced (Ask client p m) = expiry
own_expiry length expiry fenced (Grant client ask p m) = if fenced then expiry else max expiry (m + length)
own_expiry length expiry fenced (Take client ask p m) = expiry
own_expiry length expiry fenced (Verb client p m) = expiry
own_expiry length expiry fenced (Fence client p m) = expiry

abbrev pub own_fenced : ℕ → Bool → LeaseLine → Bool
own_fenced expiry fenced (Ask client p m) = fenced
own_fenced expiry fenced (Grant client ask p m) = fenced
own_fenced expiry fenced (Take client ask p m) = fenced
own_fenced expiry fenced (Verb client p m) = fenced
own_fenced expiry fenced (Fence client p m) = if fenced then fenced else (if nat_lt m expiry then fenced else true)

grant_own : (book : Booked) (c m : ℕ) → length book.expiries ≡ CLIENTS → IsClient c → (f : Bool) → is_fenced book c ≡ f → expiry_of (after_grant book c m) c ≡ (if f then expiry_of book c else longer_expiry book c m)
grant_own book c m size is_c true h = rw h refl
grant_own book c m size is_c false h = rw h (get_or-set_same book.expiries (place_of c) _ 0 (in_place c (length book.expiries) size is_c))

grant_other : (book : Booked) (c d m : ℕ) → IsClient c → IsClient d → c ≢ d → (f : Bool) → is_fenced book c ≡ f → expiry_of (after_grant book c m) d ≡ expiry_of book d
grant_other book c d m is_c is_d apart true h = rw h refl
grant_other book c d m is_c is_d apart false h = rw h (get_or-set_other book.expiries (place_of c) (place_of d) _ 0 (other_place c d is_c is_d apart))

grant_fenced : (book : Booked) (c d m : ℕ) (f : Bool) → is_fenced book c ≡ f → is_fenced (after_grant book c m) d ≡ is_fenced book d
grant_fenced book c d m true h = rw h refl
grant_fenced book c d m false h = rw h refl

fence_expiry : (book : Booked) (c d m : ℕ) (f e : Bool) → is_fenced book c ≡ f → nat_lt m (expiry_of book c) ≡ e → expiry_of (after_fence book c m) d ≡ expiry_of book d
fence_expiry book c d m true e h early = rw h refl
fence_expiry book c d m false true h early = rw (h, early) refl
fence_expiry book c d m false false h early = rw (h, early) refl

fence_own : (book : Booked) (c m : ℕ) → length book.fenced ≡ CLIENTS → IsClient c → (f e : Bool) → is_fenced book c ≡ f → nat_lt m (expiry_of book c) ≡ e → is_fenced (after_fence book c m) c ≡ (if f then f else (if e then f else true))
fence_own book c m size is_c true e h early = rw h h
fence_own book c m size is_c false true h early = rw (h, early) h
fence_own book c m size is_c false false h early = rw (h, early) (get_or-set_same book.fenced (place_of c) true false (in_place c (length book.fenced) size is_c))

fence_other : (book : Booked) (c d m : ℕ) → IsClient c → IsClient d → c ≢ d → (f e : Bool) → is_fenced book c ≡ f → nat_lt m (expiry_of book c) ≡ e → is_fenced (after_fence book c m) d ≡ is_fenced book d
fence_other book c d m is_c is_d apart true e h early = rw h refl
fence_other book c d m is_c is_d apart false true h early = rw (h, early) refl
fence_other book c d m is_c is_d apart false false h early = rw (h, early) (get_or-set_other book.fenced (place_of c) (place_of d) true false (other_place c d is_c is_d apart))

pub expiry-own : (book : Booked) (line : LeaseLine) → length book.expiries ≡ CLIENTS → IsClient (client_of line) → expiry_of (book_after book line) (client_of line) ≡ own_expiry book.terms.length (expiry_of book (client_of line)) (is_fenced book (client_of line)) line
expiry-own book (Ask client p m) size known = refl
expiry-own book (Grant client ask p m) size known = grant_own book client m size known (is_fenced book client) refl
expiry-own book (Take client ask p m) size known = refl
expiry-own book (Verb client p m) size known = refl
expiry-own book (Fence client p m) size known = fence_expiry book client client m (is_fenced book client) (nat_lt m (expiry_of book client)) refl refl

pub expiry-other : (book : Booked) (line : LeaseLine) (d : ℕ) → IsClient (client_of line) → IsClient d → client_of line ≢ d → expiry_of (book_after book line) d ≡ expiry_of book d
expiry-other book (Ask client p m) d known is_d apart = refl
expiry-other book (Grant client ask p m) d known is_d apart = grant_other book client d m known is_d apart (is_fenced book client) refl
expiry-other book (Take client ask p m) d known is_d apart = refl
expiry-other book (Verb client p m) d known is_d apart = refl
expiry-other book (Fence client p m) d known is_d apart = fence_expiry book client d m (is_fenced book client) (nat_lt m (expiry_of book client)) refl refl

pub fenced-own : (book : Booked) (line : LeaseLine) → length book.fenced ≡ CLIENTS → IsClient (client_of line) → is_fenced (book_after book line) (client_of line) ≡ own_fenced (expiry_of book (client_of line)) (is_fenced book (client_of line)) line
fenced-own book (Ask client p m) size known = refl
fenced-own book (Grant client ask p m) size known = grant_fenced book client client m (is_fenced book client) refl
fenced-own book (Take client ask p m) size known = refl
fenced-own book (Verb client p m) size known = refl
fenced-own book (Fence client p m) size known = fence_own book client m size known (is_fenced book client) (nat_lt m (expiry_of book client)) refl refl

pub fenced-other : (book : Booked) (line : LeaseLine) (d : ℕ) → IsClient (client_of line) → IsClient d → client_of line ≢ d → is_fenced (book_after book line) d ≡ is_fenced book d
fenced-other book (Ask client p m) d known is_d apart = refl
fenced-other book (Grant client ask p m) d known is_d apart = grant_fenced book client d m (is_fenced book client) refl
fenced-other book (Take client ask p m) d known is_d apart = refl
fenced-other book (Verb client p m) d known is_d apart = refl
fenced-other book (Fence client p m) d known is_d apart = fence_other book client d m known is_d apart (is_fenced book client) (nat_lt m (expiry_of book client)) refl refl
