-- A block that a client claims is none of those that it has gained.
use Rattle.std.proofs.Common.{◌≡◌, ℕ, ◌+◌, ◌<◌, ◌==◌, ◌&&◌, Bool, true, false, inl, inr, List, [], ◌∷◌, length, Option, Some, None, refl, sym, ◌∙◌, subst, arith, eq-eqb}
use Rattle.std.specs.Prelude.{bit_and, nat_lt, slice_index_or}
use Rattle.std.specs.List.{list_any}
use Rattle.std.proofs.lemmas.Bool.{cases_lt}
use Rattle.std.proofs.lemmas.List.{get_or_default, get_or_past}
use Rattle.std.proofs.lemmas.List.Folds.{list_any-from_Any}
use Rattle.block_alloc.specs.declared.BlockWord.{BlockWord}
use Rattle.block_alloc.specs.declared.BlockWord.TheVariants.{Unused, Owned, Released}
use Rattle.block_alloc.specs.BlockWord.{block_in}
use Rattle.machine.specs.declared.choosing.Took.{Took}
use Rattle.machine.specs.declared.choosing.Took.TheVariants as took
use Rattle.machine.specs.BitChange as bits
use Rattle.machine.specs.Choosing.{IsAt, asks_from, begins, block_at, chooses, next, next_block, on_block, on_block_word, on_first, on_scan, owns, region_at, spreads_from, taken, turn, turn_at, verb_at, with_awaited, with_block, with_scanned, word_at_block}
use Rattle.machine.specs.EpochRead.{IsView}
use Rattle.machine.specs.Places.{replica_count}
use Rattle.machine.specs.Stock.{AskFirst, Ask, Claim, ClassStock, OwnBlock, Phase, ReadBitmap, ReadBlock, Rest, Scan, Spread, Stock, WriteHead, class_stock, is_block, is_own, no_stock, object_bits, view_of}
use Rattle.region_view.specs.Placed.{Viewed}
use Rattle.machine.specs.ObjectNames.{Object}
use Rattle.reuse_epoch.specs.Awaited.{noted}
use Rattle.reuse_grace.proofs.Soundness.{at_updated}
use Rattle.reuse_grace.specs.Stock.{updated}
use Rattle.verb_words.specs.declared.verbs.Answer.TheVariants.{Word}
use Rattle.verb_words.specs.Verb.{answer_of, place_of}
use Rattle.verb_words.specs.Words.{word_at}
use Rattle.object_division.specs.Allowed.{IsAllowed, MayHappen}
use Rattle.object_division.specs.Client.{Active, Cleared, Clearing, Client, Named, NotClearing, Releasing, Retired, Returning, Service, Taken, Under, Untaken, Use}
use Rattle.object_division.specs.Marks.{IsClaiming, IsNew}
use Rattle.object_division.specs.Run.{Begin, Choose, Clear, ClearNext, End, Event, Name, Release, ReleaseNext, Renew, Retire, Return, ReturnNext, Seek, State, answered, cleared_next, clearing_after, clearing_of, happens, opening, released_next, renewed, returned_next, run, service_after, told}
use Rattle.object_division.proofs.BlockLemmas.{IsSound-happens, IsSound-opening}
use Rattle.object_division.proofs.GrownLemmas.{ClaimsNothing, IsPlain, asks_with-plain, begins-plain, chooses-plain, next_block-plain, on_first-plain, scans-plain, taken-own}
use Rattle.object_division.proofs.Soundness.{IsSound}

-- what is claimed is new
unfoldable pub ClaimsNew : Stock → Type 0
ClaimsNew stock = IsClaiming stock.phase → IsNew stock

nothing_claimed : {A : Type 0} (phase : Phase) → ClaimsNothing phase → IsClaiming phase → A
nothing_claimed Rest nothing claims = absurd claims
nothing_claimed AskFirst nothing claims = absurd claims
nothing_claimed (Scan own) nothing claims = absurd claims
nothing_claimed (Ask client) nothing claims = absurd claims
nothing_claimed ReadBlock nothing claims = absurd claims
nothing_claimed (Claim word) nothing claims = absurd nothing
nothing_claimed (Spread unused backup) nothing claims = absurd nothing
nothing_claimed ReadBitmap nothing claims = absurd nothing
nothing_claimed WriteHead nothing claims = absurd claims

plain-new : (stock later : Stock) → IsPlain stock later → ClaimsNew later
unfolding ClaimsNew
plain-new stock later plain claims = nothing_claimed later.phase plain.phase claims

-- ---- the block's word is read

both_ways : {A : Type 0} (b : Bool) → b ≡ false → b ≡ true → A
both_ways b is not = absurd cc

pub IsNew-read : (stock : Stock) → is_own stock (region_at stock) (block_at stock) ≡ false → IsNew stock
IsNew-read stock other class own has region block =
    elim (cases_lt class (length stock.classes)) [
      | inl within ↦
          let test : OwnBlock → Bool = is_block (region_at stock) (block_at stock) in
          let of_class = slice_index_or stock.classes class no_stock in
          let here : test own ≡ true = rw (eq-eqb own.region (region_at stock) region, eq-eqb own.block (block_at stock) block) refl in
          let some : list_any test of_class.own ≡ true =
          list_any-from_Any test of_class.own (has.0, own, has.1, has.2, here) in
          both_ways (is_own stock (region_at stock) (block_at stock)) other
          (list_any-from_Any (λ (c : ClassStock). list_any test c.own) stock.classes
          (class, of_class, within, get_or_default stock.classes class of_class no_stock within, some))
      | inr past ↦
          let none : slice_index_or stock.classes class no_stock ≡ no_stock = get_or_past stock.classes class no_stock past in
          let within : has.0 < length (no_stock).own = subst (λ (c : ClassStock). has.0 < length c.own) none has.1 in
          absurd (omega (arith, within))
    ]

owns-new : (stock : Stock) (unused : Bool) → IsNew stock → ClaimsNew (owns stock unused).state
unfolding ClaimsNew
owns-new stock true new =
    plain-new (with_block stock (object_bits stock.class) 0) (chooses (with_block stock (object_bits stock.class) 0)).state
    (chooses-plain (with_block stock (object_bits stock.class) 0))
owns-new stock false new = λ claims. new

spreads-new : (stock : Stock) (unused : Bool) (backup : ℕ) → IsNew stock → ClaimsNew (spreads_from stock unused backup).state
unfolding ClaimsNew
spreads-new stock unused backup new = by (nat_lt (backup + 1) (replica_count (view_of stock) (word_at_block stock))) refl
  where
    by : (t : Bool) → nat_lt (backup + 1) (replica_count (view_of stock) (word_at_block stock)) ≡ t
        → ClaimsNew (spreads_from stock unused backup).state
    by true more = rw more (λ claims. new)
    by false last = rw last (owns-new stock unused new)

next-new : (stock : Stock) → ClaimsNew (next_block stock).state
next-new stock = plain-new stock (next_block stock).state (next_block-plain stock)

on_block-new : (stock : Stock) (found : ℕ) (block : Option BlockWord) → IsNew stock → ClaimsNew (on_block stock found block).state
unfolding ClaimsNew
on_block-new stock found None new = next-new stock
on_block-new stock found (Some Unused) new = λ claims. new
on_block-new stock found (Some (Released class)) new = by (class == stock.class) refl
  where
    by : (t : Bool) → (class == stock.class) ≡ t → ClaimsNew (on_block stock found (Some (Released class))).state
    by true same = rw same (λ claims. new)
    by false other = rw other (next-new stock)
on_block-new stock found (Some (Owned client class)) new = by ((client == stock.client) && (class == stock.class)) refl
  where
    by : (t : Bool) → ((client == stock.client) && (class == stock.class)) ≡ t
        → ClaimsNew (on_block stock found (Some (Owned client class))).state
    by true own = rw own (spreads-new stock false 0 new)
    by false other = rw other (next-new stock)

read-new : (stock : Stock) (found : ℕ) → ClaimsNew (on_block_word stock found).state
read-new stock found = by (is_own stock (region_at stock) (block_at stock)) refl
  where
    by : (t : Bool) → is_own stock (region_at stock) (block_at stock) ≡ t → ClaimsNew (on_block_word stock found).state
    by true own = rw own (next-new stock)
    by false other = rw other (on_block-new stock found (block_in found) (IsNew-read stock other))

claim-new : (stock : Stock) (word found : ℕ) → IsNew stock → ClaimsNew (turn_at (Claim word) stock (Word found)).state
claim-new stock word found new = by (found == word) refl
  where
    by : (t : Bool) → (found == word) ≡ t → ClaimsNew (turn_at (Claim word) stock (Word found)).state
    by true same = rw same (spreads-new stock (word == 0) 0 new)
    by false other = rw other (next-new stock)

at_rest : {A : Type 0} (stock : Stock) → stock.phase ≡ Rest → IsClaiming stock.phase → A
at_rest stock rests claims = absurd (subst (λ p. IsClaiming p) rests claims)

-- a turn of a choosing whose verb was not refused
turn-new : (stock : Stock) (phase : Phase) (found : ℕ) → stock.phase ≡ phase → IsAt phase stock → ClaimsNew stock
    → ClaimsNew (turn_at phase stock (answer_of (verb_at phase stock) found)).state
unfolding ClaimsNew
turn-new stock Rest found same at new = λ claims. at_rest stock same claims
turn-new stock AskFirst found same at new = plain-new stock (on_first stock found).state (on_first-plain stock found)
turn-new stock (Scan own) found same at new =
    plain-new stock (on_scan (with_scanned stock own found) own).state (scans-plain stock own found at)
turn-new stock (Ask client) found same at new =
    let awaited = noted (class_stock stock).awaited client found in
    plain-new stock (asks_from (with_awaited stock awaited) (client + 1)).state (asks_with-plain stock awaited (client + 1))
turn-new stock ReadBlock found same at new = read-new stock found
turn-new stock (Claim word) found same at new =
    claim-new stock word found (new (subst (λ p. IsClaiming p) (sym same) tt))
turn-new stock (Spread unused backup) found same at new =
    spreads-new stock unused (backup + 1) (new (subst (λ p. IsClaiming p) (sym same) tt))
turn-new stock ReadBitmap found same at new =
    let block = with_block stock 0 (bit_and found (object_bits stock.class)) in
    plain-new block (asks_from (with_awaited block []) 1).state (asks_with-plain block [] 1)
turn-new stock WriteHead found same at new =
    plain-new stock (begins stock stock.mask stock.class).state (begins-plain stock stock.mask stock.class)

taken-new : (stock : Stock) (class reserve : ℕ) → ClaimsNew stock → ClaimsNew (taken stock class reserve)
unfolding ClaimsNew
taken-new stock class reserve new claims other own has region block =
    let old = taken-own stock class reserve other own has in
    new claims other old.old old.has (old.region ∙ region) (old.block ∙ block)

-- ---- any step

unfoldable pub AllClaimNew : (ℕ → Client) → Type 0
AllClaimNew clients = (number : ℕ) → ClaimsNew (clients number).stock

told-new : (client : Client) (stock : Stock) (answer : Took) → ClaimsNew stock → ClaimsNew (told client stock answer).stock
told-new client stock took.Going new = new
told-new client stock (took.Have object next_object) new = new
told-new client stock (took.NoSpace class awaited begin) new = new
told-new client stock (took.Refused node) new = new

updated_new : (clients : ℕ → Client) (number : ℕ) (client : Client) → AllClaimNew clients → ClaimsNew client.stock
    → AllClaimNew (updated clients number client)
unfolding AllClaimNew
updated_new clients number client all new other =
    at_updated (λ (c : Client). ClaimsNew c.stock) clients number client other (λ same. new) (λ apart. all other)

renewed-new : (client : Client) (clearing : Clearing) → ClaimsNew client.stock → ClaimsNew (renewed client clearing).stock
renewed-new client NotClearing new = new
renewed-new client (Under class given change) new = new
renewed-new client (Cleared class given) new = taken-new client.stock class given.next new

cleared-new : (state : State) (number : ℕ) (clearing : Clearing) → AllClaimNew state.clients
    → AllClaimNew (cleared_next state number clearing).clients
unfolding AllClaimNew
cleared-new state number NotClearing all = all
cleared-new state number (Cleared class given) all = all
cleared-new state number (Under class given change) all =
    let t = bits.turn change (answered state (bits.next change)) in
    updated_new state.clients number (record (state.clients number) { clearing = clearing_after class given t t.told }) all
    (all number)

returned-new : (state : State) (object : Object) (use_of : Use) → AllClaimNew state.clients
    → AllClaimNew (returned_next state object use_of).clients
returned-new state object Untaken all = all
returned-new state object (Taken client) all = all
returned-new state object (Named client namer) all = all
returned-new state object (Returning client namer change) all = all

released-new : (state : State) (number : ℕ) (service : Service) → AllClaimNew state.clients
    → AllClaimNew (released_next state number service).clients
unfolding AllClaimNew
released-new state number Active all = all
released-new state number Retired all = all
released-new state number (Releasing region block class replicas) all =
    updated_new state.clients number
    (record (state.clients number) { service = service_after state.view region block class replicas }) all (all number)

pub new-happens : (state : State) (event : Event) → MayHappen state event → IsSound state → AllClaimNew state.clients
    → AllClaimNew (happens state event).clients
unfolding AllClaimNew
new-happens state (Begin client) may sound all = all
new-happens state (End client) may sound all = all
new-happens state (Choose number class) may sound all =
    let client = state.clients number in
    let t = begins client.stock state.view.mask class in
    updated_new state.clients number (told client t.state t.told) all
    (told-new client t.state t.told
    (plain-new client.stock t.state (begins-plain client.stock state.view.mask class)))
new-happens state (Seek number) may sound all =
    let client = state.clients number in
    let stock = client.stock in
    let is = (sound.clients number).choosing may.1 in
    let t = turn stock (answered state (next stock)) in
    updated_new state.clients number (told client t.state t.told) all
    (told-new client t.state t.told
    (turn-new stock stock.phase (word_at state.words (place_of (next stock))) refl is.phase (all number)))
new-happens state (Clear number class) may sound all =
    let client = state.clients number in
    updated_new state.clients number (record client { clearing = clearing_of state.view class (client.given class) }) all (all number)
new-happens state (ClearNext number) may sound all = cleared-new state number (state.clients number).clearing all
new-happens state (Renew number) may sound all =
    let client = state.clients number in
    updated_new state.clients number (renewed client client.clearing) all (renewed-new client client.clearing (all number))
new-happens state (Name client object) may sound all = all
new-happens state (Return client object look) may sound all = all
new-happens state (ReturnNext client object) may sound all = returned-new state object (state.uses object) all
new-happens state (Retire number) may sound all =
    updated_new state.clients number (record (state.clients number) { service = Retired }) all (all number)
new-happens state (Release number region block class) may sound all =
    let client = state.clients number in
    updated_new state.clients number
    (record client { service = Releasing region block class 0; released = (region, block) ∷ client.released }) all (all number)
new-happens state (ReleaseNext number) may sound all = released-new state number (state.clients number).service all

new-run : (state : State) (events : List Event) → IsAllowed state events → IsSound state → AllClaimNew state.clients
    → AllClaimNew (run state events).clients
new-run state [] allowed sound all = all
new-run state (event ∷ events) allowed sound all =
    new-run (happens state event) events allowed.1 (IsSound-happens state event allowed.0 sound)
    (new-happens state event allowed.0 sound all)

pub new-opening : (view : Viewed) → AllClaimNew (opening view).clients
unfolding AllClaimNew ClaimsNew
new-opening view number claims = absurd claims

pub claimed_new : (view : Viewed) (events : List Event) → IsView view → IsAllowed (opening view) events → (client : ℕ)
    → IsClaiming ((run (opening view) events).clients client).stock.phase
    → IsNew ((run (opening view) events).clients client).stock
unfolding AllClaimNew ClaimsNew
claimed_new view events is allowed client =
    new-run (opening view) events allowed (IsSound-opening view is) (new-opening view) client
