-- The pool and its clients stay sound at each step.
use Rattle.std.proofs.Common.{◌≡◌, ◌≢◌, ℕ, ◌+◌, ◌-◌, ◌<◌, ◌==◌, if◌then◌else◌, Bool, true, false, List, [], length, Option, Some, refl, sym, ◌∙◌, ap, subst, arith}
use Rattle.std.specs.Prelude.{bit_and, slice_index, slice_set}
use Rattle.std.proofs.lemmas.Bool.{eqb-true}
use Rattle.block_claims.proofs.Soundness.{IsSoundStage}
use Rattle.block_claims.specs.Claims.{Claiming, Spreading, owned, primary_of}
use Rattle.machine.proofs.ChoosingLemmas.{IsTurned, begins-turned, held_view, next-inside, turn-turned}
use Rattle.machine.specs.declared.choosing.Took.{Took}
use Rattle.machine.specs.declared.choosing.Took.TheVariants as took
use Rattle.machine.specs.Choosing as choosing
use Rattle.machine.specs.Choosing.{IsAt, IsChoosing, IsReady, IsTaken, begins, block_at, next, on_first, on_block_word, region_at, spreads_from, taken, turn, turn_at, verb_at, word_at_block}
use Rattle.machine.specs.Places.{IsInPool, primary_place, written_place}
use Rattle.machine.specs.Stock.{AskFirst, Ask, Claim, Phase, ReadBitmap, ReadBlock, Rest, Scan, Spread, Stock, WriteHead, class_stock, object_bits, view_of}
use Rattle.machine.specs.Turn.{Turn}
use Rattle.object_form.specs.declared.classes.TheConstants.{CLASSES}
use Rattle.region_view.specs.Control.{Head}
use Rattle.region_view.specs.Layout.{BlockWord as block_word}
use Rattle.region_view.specs.Placed.{Viewed}
use Rattle.reuse_epoch.specs.Awaited.{noted}
use Rattle.reuse_grace.proofs.Soundness.{at_updated}
use Rattle.reuse_grace.specs.Stock.{updated}
use Rattle.verb_words.specs.declared.verbs.Answer.TheVariants.{Word}
use Rattle.verb_words.specs.declared.verbs.Place.{Place}
use Rattle.verb_words.specs.declared.verbs.Verb.TheVariants.{Read, Swap}
use Rattle.verb_words.specs.Applied.{answer_to, words_after}
use Rattle.verb_words.specs.Verb.{place_of, word_after}
use Rattle.verb_words.specs.Words.{word_at}
use Rattle.object_division.specs.Allowed.{IsActive}
use Rattle.object_division.specs.Client.{Active, Client, Given, Releasing, Service}
use Rattle.object_division.specs.Run.{State, answered, chosen, named, sought, told, told_turn, with_client}
use Rattle.object_division.proofs.BlockWordLemmas.{IsBlockOf, IsElsewhere-control, block_count, block_place, length-block_words, primary-block_words, words_after-read}
use Rattle.object_division.proofs.GrownLemmas.{IsPlain, asks_with-plain, begins-plain, next_block-plain, on_first-plain, scans-plain}
use Rattle.object_division.proofs.MovedLemmas.{GainedSoundly-kept, HasAllPlaces-after, IsSound-elsewhere, IsSound-moved, SameBlocks-elsewhere, SameBlocks-equal, claims_nothing, here_within}
use Rattle.object_division.proofs.PlaceLemmas.{primary_place-last}
use Rattle.object_division.proofs.SeekLemmas.{IsBefore, IsLed, IsLed-backup, IsLed-bitmap, IsLed-claimed, IsLed-plain, IsLed-read, IsWritten, IsWritten-verb, SameBlocks-unchanged}
use Rattle.object_division.proofs.Soundness.{AreNamed, ClaimsSoundly, GainedSoundly, HasAllPlaces, IsSound, IsSoundClient, here_words, stage_at}

active_releasing : {A : Type 0} (service : Service) (region block class replicas : ℕ) → service ≡ Active
    → service ≡ Releasing region block class replicas → A
active_releasing service region block class replicas active releasing =
    let both : Active ≡ Releasing region block class replicas = sym active ∙ releasing in absurd cc

-- ---- a client whose choosing has told something

-- the client with another stock, and with what its choosings gave
IsSoundClient-stocked : (view : Viewed) (words new : List (List ℕ)) (number : ℕ) (client : Client) (stock : Stock)
    (given : ℕ → Option Given) → IsSoundClient view words number client → client.service ≡ Active
    → IsChoosing view number stock.class stock → GainedSoundly view new number client.released stock
    → ClaimsSoundly view new number stock
    → ((class : ℕ) (one : Given) → given class ≡ Some one → AreNamed view.shape class one)
    → IsSoundClient view new number (record client { stock = stock; given = given })
IsSoundClient-stocked view words new number client stock given sound active choosing gained claims named =
    record {
      stock = choosing.ready.is_stock;
      choosing = λ works. choosing;
      gained = gained;
      claims = λ is. claims;
      releases = λ region block class replicas is. active_releasing client.service region block class replicas active is;
      given = named;
      clearing = sound.clearing;
    }

some_given : (one other : Given) → Some one ≡ Some other → one ≡ other
some_given one other same = cc

IsSoundClient-told : (view : Viewed) (words new : List (List ℕ)) (number : ℕ) (client : Client) (stock : Stock) (answer : Took)
    → IsSoundClient view words number client → client.service ≡ Active → IsChoosing view number stock.class stock
    → IsTaken view.shape stock.class answer → GainedSoundly view new number client.released stock
    → ClaimsSoundly view new number stock → IsSoundClient view new number (told client stock answer)
IsSoundClient-told view words new number client stock took.Going sound active choosing is gained claims =
    IsSoundClient-stocked view words new number client stock client.given sound active choosing gained claims sound.given
IsSoundClient-told view words new number client stock (took.Have object next_object) sound active choosing is gained claims =
    let one : Given = record { object = object; next = next_object } in
    IsSoundClient-stocked view words new number client stock (updated client.given stock.class (Some one)) sound active choosing
    gained claims
    (λ class given.
    at_updated (λ (o : Option Given). o ≡ Some given → AreNamed view.shape class given) client.given stock.class (Some one) class
    (λ same some.
    subst (λ g. AreNamed view.shape class g) (some_given one given some)
    (subst (λ c. AreNamed view.shape c one) same
    (record { below = choosing.ready.below; object = is.0; next = is.1 })))
    (λ apart some. sound.given class given some))
IsSoundClient-told view words new number client stock (took.NoSpace class awaited begin) sound active choosing is gained claims =
    IsSoundClient-stocked view words new number client stock client.given sound active choosing gained claims sound.given
IsSoundClient-told view words new number client stock (took.Refused node) sound active choosing is gained claims =
    IsSoundClient-stocked view words new number client stock client.given sound active choosing gained claims sound.given

-- the class of a choosing is that of its stock
as_choosing : (view : Viewed) (number class : ℕ) (stock : Stock) → IsChoosing view number class stock
    → IsChoosing view number stock.class stock
as_choosing view number class stock is = subst (λ c. IsChoosing view number c stock) (sym is.ready.same) is

as_taken : (view : Viewed) (number class : ℕ) (t : Turn Stock Took) → IsTurned view number class t
    → IsTaken view.shape t.state.class t.told
as_taken view number class t is = subst (λ c. IsTaken view.shape c t.told) (sym is.choosing.ready.same) is.taken

-- ---- only one client changes

pub IsSound-client : (state : State) (number : ℕ) (client : Client) → IsSound state
    → IsSoundClient state.view state.words number client → IsSound (with_client state number client)
IsSound-client state number client sound own =
    IsSound-elsewhere state state.words number client state.uses sound sound.places
    (SameBlocks-equal state.view state.words state.words refl) own sound.uses

pub IsSound-chosen : (state : State) (number class : ℕ) → IsSound state → IsActive state number → class < CLASSES
    → IsSound (chosen state number class)
IsSound-chosen state number class sound active below =
    let client = state.clients number in
    let before = sound.clients number in
    let t = begins client.stock state.view.mask class in
    let turned = begins-turned state.view number class client.stock before.stock sound.is_view active.number below in
    let plain = begins-plain client.stock state.view.mask class in
    IsSound-client state number (told_turn client t) sound
    (IsSoundClient-told state.view state.words state.words number client t.state t.told before active.active
    (as_choosing state.view number class t.state turned.choosing) (as_taken state.view number class t turned)
    (GainedSoundly-kept state.view state.words number client.released client.stock t.state plain.own before.gained)
    (claims_nothing state.view state.words number t.state t.state.phase plain.phase))

-- ---- a verb of a choosing

IsLed-at_read : (view : Viewed) (words : List (List ℕ)) (number : ℕ) (released : List (ℕ × ℕ)) (place : Place) (later : Stock)
    → IsLed view words words number released later → IsLed view words (words_after words (Read place) false) number released later
IsLed-at_read view words number released place later led =
    subst (λ new. IsLed view words new number released later) (sym (words_after-read words place)) led

IsLed-plain_read : (view : Viewed) (words : List (List ℕ)) (number : ℕ) (released : List (ℕ × ℕ)) (place : Place)
    (stock later : Stock) → IsBefore view words number released stock → IsPlain stock later
    → IsLed view words (words_after words (Read place) false) number released later
IsLed-plain_read view words number released place stock later before plain =
    IsLed-plain view words (words_after words (Read place) false) number released stock later before
    (SameBlocks-equal view words (words_after words (Read place) false) (words_after-read words place)) plain

-- where the primary of the block at the position is
pub here_primary : (view : Viewed) (number : ℕ) (stock : Stock) → IsReady view number stock.class stock
    → primary_place (view_of stock) (word_at_block stock) ≡ primary_place view (block_word (region_at stock) (block_at stock))
here_primary view number stock ready =
    ap (λ (v : Viewed). primary_place v (word_at_block stock)) (held_view view number stock.class stock ready)

pub here_found : (view : Viewed) (words : List (List ℕ)) (number : ℕ) (stock : Stock) → IsReady view number stock.class stock
    → IsBlockOf view (region_at stock) (block_at stock)
    → primary_of (here_words view words stock) ≡ word_at words (primary_place (view_of stock) (word_at_block stock))
here_found view words number stock ready within =
    primary-block_words view words (region_at stock) (block_at stock) ready.is_view within
    ∙ ap (word_at words) (sym (here_primary view number stock ready))

-- the swap of the primary's word
claim_written : (view : Viewed) (words : List (List ℕ)) (number word fresh : ℕ) (stock : Stock) → HasAllPlaces view words
    → IsReady view number stock.class stock → IsBlockOf view (region_at stock) (block_at stock)
    → IsInPool view.shape (primary_place (view_of stock) (word_at_block stock)) → 0 < length (here_words view words stock)
    → IsWritten view words
    (words_after words (Swap (primary_place (view_of stock) (word_at_block stock)) word fresh) false) (region_at stock)
    (block_at stock)
    (slice_set (here_words view words stock) (length (here_words view words stock) - 1)
    (if primary_of (here_words view words stock) == word then fresh else primary_of (here_words view words stock)))
claim_written view words number word fresh stock places ready within in_pool some =
    let region = region_at stock in
    let block = block_at stock in
    let verb = Swap (primary_place (view_of stock) (word_at_block stock)) word fresh in
    let old = here_words view words stock in
    let long = length-block_words view words region block in
    subst
    (λ j. IsWritten view words (words_after words verb false) region block
    (slice_set old j (word_after verb (slice_index old j))))
    (ap (λ n. n - 1) (sym long))
    (IsWritten-verb view words region block (block_count view region block - 1) verb ready.is_view places within
    (omega (arith, long, some))
    (here_primary view number stock ready ∙ primary_place-last view (block_word region block)) in_pool)

IsLed-claim_found : (view : Viewed) (words new : List (List ℕ)) (number word found : ℕ) (released : List (ℕ × ℕ)) (stock : Stock)
    → IsBefore view words number released stock → IsSoundStage (here_words view words stock) number (Claiming stock.class word)
    → primary_of (here_words view words stock) ≡ found
    → IsWritten view words new (region_at stock) (block_at stock)
    (slice_set (here_words view words stock) (length (here_words view words stock) - 1)
    (if found == word then owned number stock.class else found))
    → IsLed view words new number released (turn_at (Claim word) stock (Word found)).state
IsLed-claim_found view words new number word found released stock before is primary written = by (found == word) refl
  where
    by : (t : Bool) → (found == word) ≡ t → IsLed view words new number released (turn_at (Claim word) stock (Word found)).state
    by true same =
        rw same
        (IsLed-claimed view words new number word released stock before is.2 (primary ∙ eqb-true found word same)
        (rw same at written))
    by false other =
        rw other
        (IsLed-plain view words new number released stock (choosing.next_block stock).state before
        (SameBlocks-unchanged view words new (region_at stock) (block_at stock) (length (here_words view words stock) - 1)
        (subst
        (λ w. IsWritten view words new (region_at stock) (block_at stock)
        (slice_set (here_words view words stock) (length (here_words view words stock) - 1) w))
        (sym primary) (rw other at written)))
        (next_block-plain stock))

IsLed-at_claim : (view : Viewed) (words : List (List ℕ)) (number word : ℕ) (released : List (ℕ × ℕ)) (stock : Stock)
    → IsBefore view words number released stock → IsBlockOf view (region_at stock) (block_at stock)
    → IsInPool view.shape (primary_place (view_of stock) (word_at_block stock))
    → IsSoundStage (here_words view words stock) number (Claiming stock.class word)
    → IsLed view words (words_after words (verb_at (Claim word) stock) false) number released
    (turn_at (Claim word) stock (Word (word_at words (primary_place (view_of stock) (word_at_block stock))))).state
IsLed-at_claim view words number word released stock before within in_pool is =
    let found = here_found view words number stock before.ready within in
    IsLed-claim_found view words (words_after words (verb_at (Claim word) stock) false) number word
    (word_at words (primary_place (view_of stock) (word_at_block stock))) released stock before is found
    (subst
    (λ f. IsWritten view words (words_after words (verb_at (Claim word) stock) false) (region_at stock) (block_at stock)
    (slice_set (here_words view words stock) (length (here_words view words stock) - 1)
    (if f == word then owned number stock.class else f))) found
    (subst
    (λ c. IsWritten view words (words_after words (verb_at (Claim word) stock) false) (region_at stock) (block_at stock)
    (slice_set (here_words view words stock) (length (here_words view words stock) - 1)
    (if primary_of (here_words view words stock) == word then owned c stock.class
    else primary_of (here_words view words stock)))) before.ready.is_stock.owner
    (claim_written view words number word (owned stock.client stock.class) stock before.places before.ready within in_pool
    (before.blocks (region_at stock) (block_at stock) within).some)))

IsLed-at_spread : (view : Viewed) (words : List (List ℕ)) (number backup : ℕ) (unused : Bool) (released : List (ℕ × ℕ))
    (stock : Stock) → IsBefore view words number released stock → IsBlockOf view (region_at stock) (block_at stock)
    → IsInPool view.shape (written_place (view_of stock) (word_at_block stock) backup)
    → IsSoundStage (here_words view words stock) number (Spreading stock.class backup)
    → IsLed view words (words_after words (verb_at (Spread unused backup) stock) false) number released
    (spreads_from stock unused (backup + 1)).state
IsLed-at_spread view words number backup unused released stock before within in_pool is =
    let region = region_at stock in
    let block = block_at stock in
    let verb = verb_at (Spread unused backup) stock in
    let old = here_words view words stock in
    let place : written_place (view_of stock) (word_at_block stock) backup ≡ block_place view region block backup =
    ap (λ (v : Viewed). written_place v (word_at_block stock) backup)
    (held_view view number stock.class stock before.ready) in
    IsLed-backup view words (words_after words verb false) number backup unused released stock before is
    (subst (λ w. IsWritten view words (words_after words verb false) region block (slice_set old backup w))
    (ap (λ c. owned c stock.class) before.ready.is_stock.owner)
    (IsWritten-verb view words region block backup verb before.ready.is_view before.places within
    (omega (arith, is.1, length-block_words view words region block)) place in_pool))

at_rest : {A : Type 0} (stock : Stock) → stock.phase ≡ Rest → stock.phase ≢ Rest → A
at_rest stock rests works = absurd (works rests)

IsLed-sought : (view : Viewed) (words : List (List ℕ)) (number : ℕ) (released : List (ℕ × ℕ)) (stock : Stock) (phase : Phase)
    → stock.phase ≡ phase → stock.phase ≢ Rest → IsChoosing view number stock.class stock
    → IsBefore view words number released stock → IsAt phase stock
    → IsInPool view.shape (place_of (verb_at phase stock))
    → IsSoundStage (here_words view words stock) number (stage_at phase stock)
    → IsLed view words (words_after words (verb_at phase stock) false) number released
    (turn_at phase stock (answer_to words (verb_at phase stock) false)).state
IsLed-sought view words number released stock Rest same works is before at in_pool sound = at_rest stock same works
IsLed-sought view words number released stock AskFirst same works is before at in_pool sound =
    IsLed-plain_read view words number released (place_of (verb_at AskFirst stock)) stock
    (on_first stock (word_at words (place_of (verb_at AskFirst stock)))).state before
    (on_first-plain stock (word_at words (place_of (verb_at AskFirst stock))))
IsLed-sought view words number released stock (Scan own) same works is before at in_pool sound =
    let found = word_at words (place_of (verb_at (Scan own) stock)) in
    IsLed-plain_read view words number released (place_of (verb_at (Scan own) stock)) stock
    (choosing.on_scan (choosing.with_scanned stock own found) own).state before (scans-plain stock own found at)
IsLed-sought view words number released stock (Ask client) same works is before at in_pool sound =
    let found = word_at words (place_of (verb_at (Ask client) stock)) in
    let awaited = noted (class_stock stock).awaited client found in
    IsLed-plain_read view words number released (place_of (verb_at (Ask client) stock)) stock
    (choosing.asks_from (choosing.with_awaited stock awaited) (client + 1)).state before (asks_with-plain stock awaited (client + 1))
IsLed-sought view words number released stock ReadBlock same works is before at in_pool sound =
    let place = place_of (verb_at ReadBlock stock) in
    let within = here_within view number stock.class stock is at in
    IsLed-at_read view words number released place (on_block_word stock (word_at words place)).state
    (IsLed-read view words number released stock (word_at words place) before
    (here_found view words number stock before.ready within))
IsLed-sought view words number released stock (Claim word) same works is before at in_pool sound =
    IsLed-at_claim view words number word released stock before (here_within view number stock.class stock is at) in_pool sound
IsLed-sought view words number released stock (Spread unused backup) same works is before at in_pool sound =
    IsLed-at_spread view words number backup unused released stock before (here_within view number stock.class stock is at.0)
    in_pool sound
IsLed-sought view words number released stock ReadBitmap same works is before at in_pool sound =
    let place = place_of (verb_at ReadBitmap stock) in
    let waiting = bit_and (word_at words place) (object_bits stock.class) in
    IsLed-at_read view words number released place
    (choosing.asks_from (choosing.with_awaited (choosing.with_block stock 0 waiting) []) 1).state
    (IsLed-bitmap view words number released stock waiting before sound)
IsLed-sought view words number released stock WriteHead same works is before at in_pool sound =
    let verb = verb_at WriteHead stock in
    IsLed-plain view words (words_after words verb false) number released stock (begins stock stock.mask stock.class).state before
    (SameBlocks-elsewhere view words verb
    (λ region block within.
    IsElsewhere-control view region block (Head stock.client stock.class) before.ready.is_view within))
    (begins-plain stock stock.mask stock.class)

-- what the next verb of a client's choosing leads to
pub led_sought : (state : State) (number : ℕ) → IsSound state → IsActive state number
    → (state.clients number).stock.phase ≢ Rest
    → IsLed state.view state.words (words_after state.words (next (state.clients number).stock) false) number
    (state.clients number).released
    (turn (state.clients number).stock (answered state (next (state.clients number).stock))).state
led_sought state number sound active works =
    let client = state.clients number in
    let stock = client.stock in
    let old = sound.clients number in
    let is = old.choosing works in
    let before : IsBefore state.view state.words number client.released stock =
    record { places = sound.places; blocks = sound.blocks; ready = is.ready; gained = old.gained } in
    IsLed-sought state.view state.words number client.released stock stock.phase refl works is before is.phase
    (next-inside state.view number stock.class stock is) (old.claims active.active)

pub IsSound-sought : (state : State) (number : ℕ) → IsSound state → IsActive state number
    → (state.clients number).stock.phase ≢ Rest → IsSound (sought state number (state.clients number).stock)
IsSound-sought state number sound active works =
    let client = state.clients number in
    let stock = client.stock in
    let old = sound.clients number in
    let is = old.choosing works in
    let new = words_after state.words (next stock) false in
    let t = turn stock (answered state (next stock)) in
    let turned = turn-turned state.view number stock.class stock (answered state (next stock)) is in
    let led = led_sought state number sound active works in
    IsSound-moved state new number (told_turn client t) state.uses sound
    (HasAllPlaces-after state.view state.words (next stock) sound.places) led.blocks
    (IsSoundClient-told state.view state.words new number client t.state t.told old active.active
    (as_choosing state.view number stock.class t.state turned.choosing) (as_taken state.view number stock.class t turned)
    led.gained led.claims)
    led.others sound.uses
