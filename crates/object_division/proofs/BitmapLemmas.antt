-- The bitmaps: every bit is set at first, each is a word of 64 bits, and only changes of bits change them.
use Rattle.std.proofs.Common.{◌≡◌, ◌≢◌, ℕ, zero, suc, ◌+◌, ◌-◌, ◌*◌, ◌%◌, ◌^◌, ◌<◌, ◌≤◌, false, if◌then◌else◌, inl, inr, List, [], ◌∷◌, ◌++◌, length, get_or, refl, sym, ◌∙◌, ap, subst, arith, eq-eqb, ne_eqb, suc-mul, length-append}
use Rattle.std.specs.Prelude.{replicate}
use Rattle.std.specs.Int.{bit_at}
use Rattle.std.proofs.lemmas.Bool.{cases_eq, cases_lt}
use Rattle.std.proofs.lemmas.List.{ext_get_or, get_or-append-add, get_or-replicate, get_or_append_left, length-replicate}
use Rattle.std.proofs.lemmas.Nat.Bits.{bit_at_ones}
use Rattle.machine.proofs.BitChangeLemmas.{next-inside}
use Rattle.machine.proofs.ChoosingLemmas.{held_view}
use Rattle.machine.proofs.ObjectNamesLemmas.{bitmap_of-has}
use Rattle.machine.specs.BitChange as bits
use Rattle.machine.specs.BitChange.{BitChange, IsBitChange, amount, bit_number, bitmap_place, has_bit}
use Rattle.machine.specs.Choosing.{IsAt, IsChoosing, block_at, region_at, verb_at, word_at_block}
use Rattle.machine.specs.EpochRead.{IsView}
use Rattle.machine.specs.ObjectNames.{IsObject, Object, bitmap_of, block_of, number_of}
use Rattle.machine.specs.Places.{control, replica_count, written_place}
use Rattle.machine.specs.Stock.{AskFirst, Ask, Claim, Phase, ReadBitmap, ReadBlock, Rest, Scan, Spread, Stock, WriteHead}
use Rattle.pointer_fields.specs.Pointer.{region_of}
use Rattle.region_view.specs.Control.{Begin as begin_of, ControlWord, Head}
use Rattle.region_view.specs.Layout.{Bitmap, BlockWord as block_word, position_of}
use Rattle.region_view.specs.Opening.{copies, first_node, first_region, first_words_of}
use Rattle.region_view.specs.Placed.{Viewed}
use Rattle.region_view.specs.Sizes.{IsWithinLimits, Sizes, region_words}
use Rattle.verb_words.proofs.AppliedLemmas.{word_at-words_after-other, word_at-words_after-same}
use Rattle.verb_words.specs.declared.verbs.Verb.{Verb}
use Rattle.verb_words.specs.declared.verbs.Verb.TheVariants.{Write}
use Rattle.verb_words.specs.Applied.{words_after}
use Rattle.verb_words.specs.Verb.{place_of}
use Rattle.verb_words.specs.Words.{HasPlace, word_at}
use Rattle.object_division.specs.Allowed.{IsAllowed, MayHappen}
use Rattle.object_division.specs.Claims.{IsSetEverywhere}
use Rattle.object_division.specs.Client.{Active, Cleared, Clearing, Named, NotClearing, Releasing, Retired, Returning, Service, Taken, Under, Untaken, Use}
use Rattle.object_division.specs.Run.{Begin, Choose, Clear, ClearNext, End, Event, Name, Release, ReleaseNext, Renew, Retire, Return, ReturnNext, Seek, State, begin_word, cleared_next, happens, opening, release_verb, released_next, returned_next, run}
use Rattle.object_division.specs.Seen.{bits_of}
use Rattle.object_division.proofs.BitStepLemmas.{bitmap_parts, bits_of-at, elsewhere, length-bits_of, number_of-below, object_held, place_held, replica_held}
use Rattle.object_division.proofs.BlockLemmas.{IsSound-happens, IsSound-opening, IsSound-run, first_word}
use Rattle.object_division.proofs.BlockWordLemmas.{IsBlockOf, block_cases, block_count, block_count-some, block_place, length-block_words, words_after-read}
use Rattle.object_division.proofs.ClassLemmas.{view-happens, view-run}
use Rattle.object_division.proofs.EventLemmas.{here_primary}
use Rattle.object_division.proofs.MovedLemmas.{here_within}
use Rattle.object_division.proofs.OwnLemmas.{allowed_last}
use Rattle.object_division.proofs.PlaceLemmas.{control-apart, primary_place-last, written_place-apart}
use Rattle.object_division.proofs.SeekLemmas.{count_held}
use Rattle.object_division.proofs.Soundness.{HasAllPlaces, IsSound, IsSoundClearing, IsSoundUse}
use Rattle.object_division.proofs.StepLemmas.{change_place, object_block, release_place}

-- ---- the bitmaps at first

-- where one of several copies of the words lies
copy_within : (n k offset long : ℕ) → k < n → offset < long → k * long + offset < n * long
copy_within zero k offset long below inside = absurd (omega arith)
copy_within (suc n) k offset long below inside =
    elim (cases_lt k n) [
      | inl before ↦ let rest = copy_within n k offset long before inside in grind (arith, suc-mul)
      | inr last ↦
          let at : k ≡ n = omega arith in
          subst (λ m. m * long + offset < suc n * long) (sym at) (grind (arith, suc-mul))
    ]

length-copies : (n : ℕ) (words : List ℕ) → length (copies n words) ≡ n * length words
length-copies zero words = omega arith
length-copies (suc n) words =
    let rest = length-copies n words in
    let more = length-append (copies n words) words in
    grind (arith, suc-mul)

copies-at : (n k offset : ℕ) (words : List ℕ) → k < n → offset < length words
    → get_or (copies n words) (k * length words + offset) 0 ≡ get_or words offset 0
copies-at zero k offset words below inside = absurd (omega arith)
copies-at (suc n) k offset words below inside =
    elim (cases_lt k n) [
      | inl before ↦
          get_or_append_left (copies n words) words 0 (k * length words + offset)
          (subst (λ l. k * length words + offset < l) (sym (length-copies n words))
          (copy_within n k offset (length words) before inside))
          ∙ copies-at n k offset words before inside
      | inr last ↦
          let at : k ≡ n = omega arith in
          subst (λ m. get_or (copies n words ++ words) (m * length words + offset) 0 ≡ get_or words offset 0) (sym at)
          (ap (λ l. get_or (copies n words ++ words) (l + offset) 0) (sym (length-copies n words))
          ∙ get_or-append-add (copies n words) words offset 0)
    ]

length-first_region : (sizes : Sizes) → sizes.blocks ≤ 64 → length (first_region sizes) ≡ region_words sizes
length-first_region sizes most =
    let zeros : List ℕ = replicate 64 0 in
    let ones : List ℕ = replicate sizes.blocks (2 ^ 64 - 1) in
    let last : List ℕ = replicate (64 - sizes.blocks + 512 * sizes.blocks) 0 in
    length-append (zeros ++ ones) last
    ∙ omega (arith, most, length-append zeros ones, length-replicate {A = ℕ} 64 0, length-replicate {A = ℕ} sizes.blocks (2 ^ 64 - 1), length-replicate {A = ℕ} (64 - sizes.blocks + 512 * sizes.blocks) 0)

first_bitmap : (sizes : Sizes) (block : ℕ) → block < sizes.blocks → get_or (first_region sizes) (64 + block) 0 ≡ 2 ^ 64 - 1
first_bitmap sizes block below =
    let zeros : List ℕ = replicate 64 0 in
    let ones : List ℕ = replicate sizes.blocks (2 ^ 64 - 1) in
    let last : List ℕ = replicate (64 - sizes.blocks + 512 * sizes.blocks) 0 in
    let long = length-append zeros ones in
    let long_ones = length-replicate {A = ℕ} sizes.blocks (2 ^ 64 - 1) in
    get_or_append_left (zeros ++ ones) last 0 (64 + block) (omega (arith, long, long_ones, below))
    ∙ (get_or-append-add zeros ones block 0
    ∙ get_or-replicate sizes.blocks block (2 ^ 64 - 1) 0 below)

grouped : (a b c : ℕ) → a + b + c ≡ a + (b + c)
grouped a b c = omega arith

-- the words of the index at first
first_index : Sizes → List ℕ
first_index sizes = replicate (48 * sizes.groups) 0

bitmap_position : (sizes : Sizes) (region block : ℕ) → 1 ≤ region → sizes.blocks ≤ 64
    → position_of sizes (Bitmap region block)
    ≡ length (first_index sizes) + ((region - 1) * length (first_region sizes) + (64 + block))
unfolding first_index
bitmap_position sizes region block least most =
    ap (λ b. (if b then 0 else 48 * sizes.groups + (region - 1) * region_words sizes) + (64 + block))
    (ne_eqb region 0 (λ none. omega (arith, none, least)))
    ∙ (grouped (48 * sizes.groups) ((region - 1) * region_words sizes) (64 + block)
    ∙ (ap (λ l. l + ((region - 1) * region_words sizes + (64 + block))) (sym (length-replicate {A = ℕ} (48 * sizes.groups) 0))
    ∙ ap (λ l. length (first_index sizes) + ((region - 1) * l + (64 + block))) (sym (length-first_region sizes most))))

bitmap_at_first : (sizes : Sizes) (region block : ℕ) → IsWithinLimits sizes → 1 ≤ region → region ≤ sizes.regions
    → block < sizes.blocks → get_or (first_node sizes) (position_of sizes (Bitmap region block)) 0 ≡ 2 ^ 64 - 1
unfolding first_index
bitmap_at_first sizes region block limits least within below =
    let most : sizes.blocks ≤ 64 = omega (arith, limits.blocks) in
    let words = first_region sizes in
    let long = length-first_region sizes most in
    ap (λ at. get_or (first_node sizes) at 0) (bitmap_position sizes region block least most)
    ∙ (get_or-append-add (first_index sizes) (copies sizes.regions words)
    ((region - 1) * length words + (64 + block)) 0
    ∙ (copies-at sizes.regions (region - 1) (64 + block) words (omega (arith, least, within)) (omega (arith, long, below, most))
    ∙ first_bitmap sizes block below))

pub bitmap_opens : (view : Viewed) (region block i : ℕ) → IsView view → IsBlockOf view region block
    → i < replica_count view (Bitmap region block)
    → word_at (first_words_of view.shape) (written_place view (Bitmap region block) i) ≡ 2 ^ 64 - 1
bitmap_opens view region block i is within inside =
    first_word view (Bitmap region block) i is (within.region_within.0, within.region_within.1, within.block_within) inside
    ∙ bitmap_at_first view.shape region block is.limits within.region_within.0 within.region_within.1 within.block_within

pub set_at_first : (view : Viewed) → IsView view → (object : Object) → IsObject view.shape object
    → IsSetEverywhere (opening view) object
set_at_first view is object is_object replica within =
    let number = number_of object.pointer object.class in
    let below = number_of-below object.pointer object.class is_object.class in
    ap (λ w. has_bit w number)
    (bitmap_opens view (region_of object.pointer) (block_of object.pointer) replica is (object_block view object is_object) within)
    ∙ eq-eqb (bit_at (2 ^ 64 - 1) number) 1 (bit_at_ones 64 number below)

-- ---- verbs that change no bitmap

unfoldable pub SameBitmaps : Viewed → List (List ℕ) → List (List ℕ) → Type 0
SameBitmaps view words new =
    (region block i : ℕ) → IsBlockOf view region block → i < replica_count view (Bitmap region block)
    → word_at new (written_place view (Bitmap region block) i) ≡ word_at words (written_place view (Bitmap region block) i)

SameBitmaps-equal : (view : Viewed) (words new : List (List ℕ)) → new ≡ words → SameBitmaps view words new
unfolding SameBitmaps
SameBitmaps-equal view words new same region block i within inside =
    ap (λ w. word_at w (written_place view (Bitmap region block) i)) same

SameBitmaps-control : (view : Viewed) (words : List (List ℕ)) (verb : Verb) (word : ControlWord) → IsView view
    → place_of verb ≡ control word → SameBitmaps view words (words_after words verb false)
unfolding SameBitmaps
SameBitmaps-control view words verb word is at region block i within inside =
    word_at-words_after-other words verb false (written_place view (Bitmap region block) i)
    (λ same.
    control-apart view (Bitmap region block) i word is.limits
    (within.region_within.0, within.region_within.1, within.block_within) inside (same ∙ at))

no_bitmap : (region block other of_other : ℕ) → Bitmap region block ≡ block_word other of_other → ⊥
no_bitmap region block other of_other is = cc

SameBitmaps-block : (view : Viewed) (words : List (List ℕ)) (verb : Verb) (other of_other j : ℕ) → IsView view
    → IsBlockOf view other of_other → j < block_count view other of_other → place_of verb ≡ block_place view other of_other j
    → SameBitmaps view words (words_after words verb false)
unfolding SameBitmaps
SameBitmaps-block view words verb other of_other j is within' inside' at region block i within inside =
    word_at-words_after-other words verb false (written_place view (Bitmap region block) i)
    (λ same.
    no_bitmap region block other of_other
    ((written_place-apart view (Bitmap region block) (block_word other of_other) i j is.limits
    (within.region_within.0, within.region_within.1, within.block_within)
    (within'.region_within.0, within'.region_within.1, within'.block_within) inside inside' (same ∙ at)).0))

-- ---- a verb of a choosing

bitmaps-sought : (view : Viewed) (words : List (List ℕ)) (number : ℕ) (stock : Stock) (phase : Phase)
    → IsChoosing view number stock.class stock → IsAt phase stock
    → SameBitmaps view words (words_after words (verb_at phase stock) false)
bitmaps-sought view words number stock Rest is at =
    SameBitmaps-equal view words (words_after words (verb_at Rest stock) false)
    (words_after-read words (place_of (verb_at Rest stock)))
bitmaps-sought view words number stock AskFirst is at =
    SameBitmaps-equal view words (words_after words (verb_at AskFirst stock) false)
    (words_after-read words (place_of (verb_at AskFirst stock)))
bitmaps-sought view words number stock (Scan own) is at =
    SameBitmaps-equal view words (words_after words (verb_at (Scan own) stock) false)
    (words_after-read words (place_of (verb_at (Scan own) stock)))
bitmaps-sought view words number stock (Ask client) is at =
    SameBitmaps-equal view words (words_after words (verb_at (Ask client) stock) false)
    (words_after-read words (place_of (verb_at (Ask client) stock)))
bitmaps-sought view words number stock ReadBlock is at =
    SameBitmaps-equal view words (words_after words (verb_at ReadBlock stock) false)
    (words_after-read words (place_of (verb_at ReadBlock stock)))
bitmaps-sought view words number stock (Claim word) is at =
    let within = here_within view number stock.class stock is at in
    let region = region_at stock in
    let block = block_at stock in
    let some = block_count-some view region block is.ready.is_view within in
    SameBitmaps-block view words (verb_at (Claim word) stock) region block (block_count view region block - 1) is.ready.is_view
    within (omega (arith, some))
    (here_primary view number stock is.ready ∙ primary_place-last view (block_word region block))
bitmaps-sought view words number stock (Spread unused backup) is at =
    let within = here_within view number stock.class stock is at.0 in
    SameBitmaps-block view words (verb_at (Spread unused backup) stock) (region_at stock) (block_at stock) backup
    is.ready.is_view within (omega (arith, at.1, count_held view number stock is.ready))
    (ap (λ (v : Viewed). written_place v (word_at_block stock) backup) (held_view view number stock.class stock is.ready))
bitmaps-sought view words number stock ReadBitmap is at =
    SameBitmaps-equal view words (words_after words (verb_at ReadBitmap stock) false)
    (words_after-read words (place_of (verb_at ReadBitmap stock)))
bitmaps-sought view words number stock WriteHead is at =
    SameBitmaps-control view words (verb_at WriteHead stock) (Head stock.client stock.class) is.ready.is_view refl

bitmaps-released : (state : State) (number : ℕ) (service : Service) → (state.clients number).service ≡ service → IsSound state
    → SameBitmaps state.view state.words (released_next state number service).words
bitmaps-released state number Active is sound = SameBitmaps-equal state.view state.words state.words refl
bitmaps-released state number Retired is sound = SameBitmaps-equal state.view state.words state.words refl
bitmaps-released state number (Releasing region block class replicas) is sound =
    let old = (sound.clients number).releases region block class replicas is in
    SameBitmaps-block state.view state.words (release_verb state.view number region block class replicas) region block replicas
    sound.is_view old.0 (omega (arith, old.2.1, length-block_words state.view state.words region block))
    (release_place state.view number region block class replicas)

-- the event is the next verb of a change of a bit
abbrev pub ChangesBit : Event → Type 0
ChangesBit (ClearNext client) = Unit {0}
ChangesBit (ReturnNext client object) = Unit {0}
ChangesBit other = ⊥

bitmaps-moved_on : (state : State) (client : ℕ) → IsView state.view
    → SameBitmaps state.view state.words
    (words_after state.words (Write (control (begin_of client)) (begin_word state client + 1)) false)
bitmaps-moved_on state client is =
    SameBitmaps-control state.view state.words (Write (control (begin_of client)) (begin_word state client + 1))
    (begin_of client) is refl

pub bitmaps-happens : (state : State) (event : Event) → MayHappen state event → IsSound state → (ChangesBit event → ⊥)
    → SameBitmaps state.view state.words (happens state event).words
bitmaps-happens state (Begin client) may sound other = bitmaps-moved_on state client sound.is_view
bitmaps-happens state (End client) may sound other = bitmaps-moved_on state client sound.is_view
bitmaps-happens state (Choose client class) may sound other = SameBitmaps-equal state.view state.words state.words refl
bitmaps-happens state (Seek client) may sound other =
    let stock = (state.clients client).stock in
    let is = (sound.clients client).choosing may.1 in
    bitmaps-sought state.view state.words client stock stock.phase is is.phase
bitmaps-happens state (Clear client class) may sound other = SameBitmaps-equal state.view state.words state.words refl
bitmaps-happens state (ClearNext client) may sound other = absurd (other tt)
bitmaps-happens state (Renew client) may sound other = SameBitmaps-equal state.view state.words state.words refl
bitmaps-happens state (Name client object) may sound other = SameBitmaps-equal state.view state.words state.words refl
bitmaps-happens state (Return client object look) may sound other = SameBitmaps-equal state.view state.words state.words refl
bitmaps-happens state (ReturnNext client object) may sound other = absurd (other tt)
bitmaps-happens state (Retire client) may sound other = SameBitmaps-equal state.view state.words state.words refl
bitmaps-happens state (Release client region block class) may sound other =
    SameBitmaps-equal state.view state.words state.words refl
bitmaps-happens state (ReleaseNext client) may sound other =
    bitmaps-released state client (state.clients client).service refl sound

-- ---- the bits of objects

pub bits_of-same : (view : Viewed) (words new : List (List ℕ)) (object : Object) → SameBitmaps view words new
    → IsObject view.shape object → bits_of view new object ≡ bits_of view words object
unfolding SameBitmaps
bits_of-same view words new object same is =
    let long = length-bits_of view words object in
    let long_new = length-bits_of view new object in
    let number = number_of object.pointer object.class in
    ext_get_or false (bits_of view new object) (bits_of view words object) (long_new ∙ sym long)
    (λ i below.
    let within : i < replica_count view (bitmap_of object.pointer) = omega (arith, long_new, below) in
    bits_of-at view new object i within
    ∙ (ap (λ w. has_bit w number)
    (same (region_of object.pointer) (block_of object.pointer) i (object_block view object is) within)
    ∙ sym (bits_of-at view words object i within)))

-- only the verbs of changes of bits change bits
pub bits_stay : (view : Viewed) (events : List Event) (event : Event) → IsView view
    → IsAllowed (opening view) (events ++ event ∷ []) → ((client : ℕ) → event ≢ ClearNext client)
    → ((client : ℕ) (object : Object) → event ≢ ReturnNext client object) → (object : Object) → IsObject view.shape object
    → bits_of view (happens (run (opening view) events) event).words object
    ≡ bits_of view (run (opening view) events).words object
bits_stay view events event is allowed clears returns object is_object =
    let state = run (opening view) events in
    let both = allowed_last (opening view) events event allowed in
    let sound = IsSound-run (opening view) events both.0 (IsSound-opening view is) in
    let same : SameBitmaps view state.words (happens state event).words =
    subst (λ v. SameBitmaps v state.words (happens state event).words) (view-run (opening view) events)
    (bitmaps-happens state event both.1 sound (no_change event clears returns)) in
    bits_of-same view state.words (happens state event).words object same is_object
  where
    no_change : (one : Event) → ((client : ℕ) → one ≢ ClearNext client)
        → ((client : ℕ) (of : Object) → one ≢ ReturnNext client of) → ChangesBit one → ⊥
    no_change (Begin client) clearing setting is_change = is_change
    no_change (End client) clearing setting is_change = is_change
    no_change (Choose client class) clearing setting is_change = is_change
    no_change (Seek client) clearing setting is_change = is_change
    no_change (Clear client class) clearing setting is_change = is_change
    no_change (ClearNext client) clearing setting is_change = clearing client refl
    no_change (Renew client) clearing setting is_change = is_change
    no_change (Name client of) clearing setting is_change = is_change
    no_change (Return client of look) clearing setting is_change = is_change
    no_change (ReturnNext client of) clearing setting is_change = setting client of refl
    no_change (Retire client) clearing setting is_change = is_change
    no_change (Release client region block class) clearing setting is_change = is_change
    no_change (ReleaseNext client) clearing setting is_change = is_change

-- ---- each bitmap is a word of 64 bits

unfoldable pub SmallBitmaps : Viewed → List (List ℕ) → Type 0
SmallBitmaps view words =
    (region block i : ℕ) → IsBlockOf view region block → i < replica_count view (Bitmap region block)
    → word_at words (written_place view (Bitmap region block) i) < 2 ^ 64

SmallBitmaps-same : (view : Viewed) (words new : List (List ℕ)) → SameBitmaps view words new → SmallBitmaps view words
    → SmallBitmaps view new
unfolding SameBitmaps SmallBitmaps
SmallBitmaps-same view words new same small region block i within inside =
    subst (λ w. w < 2 ^ 64) (sym (same region block i within inside)) (small region block i within inside)

-- what an add leaves is one
changed_word : (words : List (List ℕ)) (change : BitChange) (phase : bits.Phase)
    → HasPlace words (bitmap_place change) → word_at words (bitmap_place change) < 2 ^ 64
    → word_at (words_after words (bits.verb_at phase change) false) (bitmap_place change) < 2 ^ 64
changed_word words change bits.Look has small =
    subst (λ w. word_at w (bitmap_place change) < 2 ^ 64) (sym (words_after-read words (bitmap_place change))) small
changed_word words change bits.Change has small =
    subst (λ w. w < 2 ^ 64) (sym (word_at-words_after-same words (bits.verb_at bits.Change change) false has refl))
    (rest_small (word_at words (bitmap_place change) + amount change.set (bit_number change)))
  where
    rest_small : (sum : ℕ) → sum % 2 ^ 64 < 2 ^ 64
    rest_small sum = omega arith

SmallBitmaps-change : (view : Viewed) (words : List (List ℕ)) (change : BitChange) → IsView view → IsBitChange view change
    → HasAllPlaces view words → SmallBitmaps view words → SmallBitmaps view (words_after words (bits.next change) false)
unfolding SmallBitmaps
SmallBitmaps-change view words change is_view is places small region block i within inside =
    let new = words_after words (bits.next change) false in
    let object = change.object in
    let has = bitmap_of-has view.shape object (object_held view change is) in
    let at_place = place_held view change is in
    let place = written_place view (Bitmap region block) i in
    let has_place : HasPlace words (bitmap_place change) =
    subst (λ p. HasPlace words p) (change_place change change.phase) (places (place_of (bits.next change)) (next-inside view change is)) in
    let there : place ≢ bitmap_place change → word_at new place < 2 ^ 64 = λ differs.
    subst (λ w. w < 2 ^ 64) (sym (elsewhere view words change place differs change.phase)) (small region block i within inside) in
    let apart = λ (same : place ≡ bitmap_place change).
    written_place-apart view (Bitmap region block) (bitmap_of object.pointer) i change.replica is_view.limits
    (within.region_within.0, within.region_within.1, within.block_within) has inside (replica_held view change is)
    (same ∙ at_place) in
    elim (block_cases region block (region_of object.pointer) (block_of object.pointer)) [
      | inr differs ↦
          there
          (λ same. differs (bitmap_parts region block (region_of object.pointer) (block_of object.pointer) (apart same).0))
      | inl blocks ↦
          elim (cases_eq i change.replica) [
            | inr differs ↦ there (λ same. differs (apart same).1)
            | inl here ↦
                let at : place ≡ bitmap_place change =
                ap (λ r. written_place view (Bitmap r block) i) blocks.0
                ∙ (ap (λ b. written_place view (Bitmap (region_of object.pointer) b) i) blocks.1
                ∙ (ap (λ k. written_place view (bitmap_of object.pointer) k) here ∙ sym at_place)) in
                subst (λ p. word_at new p < 2 ^ 64) (sym at)
                (changed_word words change change.phase has_place
                (subst (λ p. word_at words p < 2 ^ 64) at (small region block i within inside)))
          ]
    ]

small-cleared : (state : State) (number : ℕ) (clearing : Clearing) → IsSound state → IsSoundClearing state.view clearing
    → SmallBitmaps state.view state.words → SmallBitmaps state.view (cleared_next state number clearing).words
small-cleared state number NotClearing sound is small = small
small-cleared state number (Cleared class given) sound is small = small
small-cleared state number (Under class given change) sound is small =
    SmallBitmaps-change state.view state.words change sound.is_view is.1 sound.places small

small-returned : (state : State) (object : Object) (use_of : Use) → IsSound state → IsSoundUse state.view object use_of
    → SmallBitmaps state.view state.words → SmallBitmaps state.view (returned_next state object use_of).words
small-returned state object Untaken sound is small = small
small-returned state object (Taken client) sound is small = small
small-returned state object (Named client namer) sound is small = small
small-returned state object (Returning client namer change) sound is small =
    SmallBitmaps-change state.view state.words change sound.is_view is.1 sound.places small

small-same : (state : State) (event : Event) → MayHappen state event → IsSound state → (ChangesBit event → ⊥)
    → SmallBitmaps state.view state.words → SmallBitmaps state.view (happens state event).words
small-same state event may sound other small =
    SmallBitmaps-same state.view state.words (happens state event).words (bitmaps-happens state event may sound other) small

pub small-happens : (state : State) (event : Event) → MayHappen state event → IsSound state
    → SmallBitmaps state.view state.words → SmallBitmaps state.view (happens state event).words
small-happens state (ClearNext client) may sound small =
    small-cleared state client (state.clients client).clearing sound (sound.clients client).clearing small
small-happens state (ReturnNext client object) may sound small =
    small-returned state object (state.uses object) sound (sound.uses object) small
small-happens state (Begin client) may sound small = small-same state (Begin client) may sound (λ is. is) small
small-happens state (End client) may sound small = small-same state (End client) may sound (λ is. is) small
small-happens state (Choose client class) may sound small = small
small-happens state (Seek client) may sound small = small-same state (Seek client) may sound (λ is. is) small
small-happens state (Clear client class) may sound small = small
small-happens state (Renew client) may sound small = small
small-happens state (Name client object) may sound small = small
small-happens state (Return client object look) may sound small = small
small-happens state (Retire client) may sound small = small
small-happens state (Release client region block class) may sound small = small
small-happens state (ReleaseNext client) may sound small = small-same state (ReleaseNext client) may sound (λ is. is) small

small-run : (state : State) (events : List Event) → IsAllowed state events → IsSound state
    → SmallBitmaps state.view state.words → SmallBitmaps (run state events).view (run state events).words
small-run state [] allowed sound small = small
small-run state (event ∷ events) allowed sound small =
    small-run (happens state event) events allowed.1 (IsSound-happens state event allowed.0 sound)
    (subst (λ v. SmallBitmaps v (happens state event).words) (sym (view-happens state event))
    (small-happens state event allowed.0 sound small))

pub small-opening : (view : Viewed) → IsView view → SmallBitmaps view (opening view).words
unfolding SmallBitmaps
small-opening view is region block i within inside =
    subst (λ w. w < 2 ^ 64) (sym (bitmap_opens view region block i is within inside)) (omega arith)

pub bitmaps_small : (view : Viewed) (events : List Event) → IsView view → IsAllowed (opening view) events → (object : Object)
    → IsObject view.shape object → (replica : ℕ) → replica < replica_count view (bitmap_of object.pointer)
    → word_at (run (opening view) events).words (written_place view (bitmap_of object.pointer) replica) < 2 ^ 64
unfolding SmallBitmaps
bitmaps_small view events is allowed object is_object replica within =
    let state = run (opening view) events in
    let small = small-run (opening view) events allowed (IsSound-opening view is) (small-opening view is) in
    let here : SmallBitmaps view state.words = subst (λ v. SmallBitmaps v state.words) (view-run (opening view) events) small in
    here (region_of object.pointer) (block_of object.pointer) replica (object_block view object is_object) within
