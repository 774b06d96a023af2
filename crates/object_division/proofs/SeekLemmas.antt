-- The verbs of a choosing: what each leaves true of the words of the blocks, of the client and of the others.
use Rattle.std.proofs.Common.{◌≡◌, ◌≢◌, ℕ, ◌+◌, ◌-◌, ◌<◌, ◌==◌, ◌&&◌, ◌⊎◌, ◌++◌, nat_lt, Bool, true, false, List, [], ◌∷◌, length, get_or, Option, Some, None, refl, sym, ◌∙◌, ap, subst, arith, inl, inr}
use Rattle.std.specs.Prelude.{Contains, slice_index, slice_set}
use Rattle.std.proofs.lemmas.Bool.{and_parts, eqb-true, ltb-true}
use Rattle.std.proofs.lemmas.List.{length-set, set-get_or}
use Rattle.std.proofs.lemmas.List.Elements.{Contains-append_cases}
use Rattle.block_alloc.proofs.BlockWordLemmas.{block_in-gives}
use Rattle.block_alloc.specs.declared.BlockWord.{BlockWord}
use Rattle.block_alloc.specs.declared.BlockWord.TheVariants.{Unused, Owned, Released}
use Rattle.block_alloc.specs.BlockWord.{IsClient, block_in}
use Rattle.block_claims.proofs.EventLemmas.{HaveWord-more, IsSoundStage-spreads, IsSoundWords-claimed}
use Rattle.block_claims.proofs.Soundness.{HaveWord, IsOwner, IsSoundStage, IsSoundWords}
use Rattle.block_claims.proofs.WordLemmas.{IsNoOwner, IsNoOwner-claimable, IsNoOwner-other, IsOwner-kept, IsSoundStage-other, IsSoundWords-backup, at_set, owned-same, primary-backup, primary-written}
use Rattle.block_claims.specs.Claims.{Stage, Spreading, Owning, Gained, owned, primary_of, released as free_word}
use Rattle.machine.proofs.ChoosingLemmas.{held_view}
use Rattle.machine.specs.Choosing.{IsReady, asks_from, block_at, chooses, next_block, on_block, on_block_word, owns, region_at, spreads_from, with_awaited, with_block, word_at_block}
use Rattle.machine.specs.EpochRead.{IsView}
use Rattle.machine.specs.Places.{IsInPool, replica_count}
use Rattle.machine.specs.Stock.{Claim, IsStock, OwnBlock, ReadBitmap, Spread, Stock, class_stock, is_own, object_bits, view_of}
use Rattle.object_form.specs.declared.classes.TheConstants.{CLASSES}
use Rattle.region_view.specs.Placed.{Viewed}
use Rattle.verb_words.specs.declared.verbs.Verb.{Verb}
use Rattle.verb_words.specs.Applied.{words_after}
use Rattle.verb_words.specs.Verb.{place_of, word_after}
use Rattle.object_division.specs.Claims.{IsOfClass, IsOpenTo}
use Rattle.object_division.proofs.ClassWordLemmas.{class-backup, class-claimed, opened-backup, opened-claimed}
use Rattle.object_division.proofs.BlockWordLemmas.{IsBlockOf, IsElsewhere-block, block_cases, block_count, block_place, block_words, block_words-elsewhere, block_words-verb, length-block_words}
use Rattle.object_division.proofs.GrownLemmas.{IsPlain, KeepsOwn-marked, asks_with-plain, chooses-plain, next_block-plain, own-replaced, own_of}
use Rattle.object_division.proofs.MovedLemmas.{BlocksAreSound-same, GainedSoundly-kept, GainedSoundly-moved, KeepsClass, KeepsClass-same, SameBlocks, SameBlocks-equal, WordsMove, WordsMove-same, claims_nothing, own_block}
use Rattle.object_division.proofs.Soundness.{BlocksAreSound, ClaimsSoundly, GainedSoundly, HasAllPlaces, here_words}

-- what a verb of a choosing, by which a stock becomes another one and the words become others, leads to
pub record IsLed (view : Viewed) (words new : List (List ℕ)) (number : ℕ) (released : List (ℕ × ℕ)) (stock : Stock) : Type 0 where
  pub blocks : BlocksAreSound view new
  pub others : (other : ℕ) → number ≢ other → WordsMove view words new other
  pub classes : KeepsClass view words new
  pub gained : GainedSoundly view new number released stock
  pub claims : ClaimsSoundly view new number stock

-- what is known of the client and of the pool before
pub record IsBefore (view : Viewed) (words : List (List ℕ)) (number : ℕ) (released : List (ℕ × ℕ)) (stock : Stock) : Type 0 where
  pub places : HasAllPlaces view words
  pub blocks : BlocksAreSound view words
  pub ready : IsReady view number stock.class stock
  pub gained : GainedSoundly view words number released stock

client_within : (view : Viewed) (number : ℕ) (stock : Stock) → IsReady view number stock.class stock → IsClient number
client_within view number stock ready =
    record { least = ready.number.0; most = omega (arith, ready.number.1, ready.is_view.limits.clients) }

-- ---- no word of a block changes, and the client gains nothing

pub IsLed-plain : (view : Viewed) (words new : List (List ℕ)) (number : ℕ) (released : List (ℕ × ℕ)) (stock later : Stock)
    → IsBefore view words number released stock → SameBlocks view words new → IsPlain stock later
    → IsLed view words new number released later
IsLed-plain view words new number released stock later before same plain =
    record {
      blocks = BlocksAreSound-same view words new same before.blocks;
      others = λ other apart. WordsMove-same view words new other same;
      classes = KeepsClass-same view words new same;
      gained =
          GainedSoundly-kept view new number released stock later plain.own
          (GainedSoundly-moved view words new number released stock before.ready.is_stock
          (WordsMove-same view words new number same) before.gained);
      claims = claims_nothing view new number later later.phase plain.phase;
    }

-- ---- a block is gained

-- what the client has then is what it had, and the block at the position
grown : (stock : Stock) (ripe waiting class : ℕ) (own : OwnBlock) → Contains (own_of (with_block stock ripe waiting) class) own
    → (Contains (own_of stock class) own)
    ⊎ ((class ≡ stock.class) × (own.region ≡ region_at stock) × (own.block ≡ block_at stock))
grown stock ripe waiting class own =
    let new : OwnBlock = record { region = region_at stock; block = block_at stock; ripe = ripe; waiting = waiting } in
    own-replaced
    (λ list. Contains list own → (Contains (own_of stock class) own)
    ⊎ ((class ≡ stock.class) × (own.region ≡ region_at stock) × (own.block ≡ block_at stock)))
    stock.classes stock.class class
    (record (class_stock stock) { own = (class_stock stock).own ++ new ∷ [] })
    (λ same has.
    elim (Contains-append_cases (class_stock stock).own (new ∷ []) own has) [
      | inl old ↦ inl (subst (λ c. Contains (own_of stock c) own) (sym same) old)
      | inr last ↦
          let first : last.0 ≡ 0 = omega (arith, last.1) in
          let is : new ≡ own = subst (λ k. get_or (new ∷ []) k own ≡ own) first last.2 in
          inr (same, sym (ap (λ (o : OwnBlock). o.region) is), sym (ap (λ (o : OwnBlock). o.block) is))
    ])
    (λ has. inl has)

GainedSoundly-grown : (view : Viewed) (words : List (List ℕ)) (number : ℕ) (released : List (ℕ × ℕ)) (stock : Stock)
    (ripe waiting : ℕ) → GainedSoundly view words number released stock
    → IsSoundStage (here_words view words stock) number (Gained stock.class)
    → GainedSoundly view words number released (with_block stock ripe waiting)
GainedSoundly-grown view words number released stock ripe waiting gained here class own has kept =
    elim (grown stock ripe waiting class own has) [
      | inl old ↦ gained class own old kept
      | inr new ↦
          subst (λ c. IsSoundStage (block_words view words own.region own.block) number (Gained c)) (sym new.0)
          (subst (λ region. IsSoundStage (block_words view words region own.block) number (Gained stock.class)) (sym new.1)
          (subst (λ block. IsSoundStage (block_words view words (region_at stock) block) number (Gained stock.class)) (sym new.2)
          here))
    ]

-- ---- the block's word stands on the primary and on some backups

-- what holds then of what the choosing has gained and claims
pub record HasSpread (view : Viewed) (words : List (List ℕ)) (number : ℕ) (released : List (ℕ × ℕ)) (stock : Stock) : Type 0 where
  pub gained : GainedSoundly view words number released stock
  pub claims : ClaimsSoundly view words number stock

pub count_held : (view : Viewed) (number : ℕ) (stock : Stock) → IsReady view number stock.class stock
    → replica_count (view_of stock) (word_at_block stock) ≡ block_count view (region_at stock) (block_at stock)
count_held view number stock ready =
    ap (λ (v : Viewed). replica_count v (word_at_block stock)) (held_view view number stock.class stock ready)

HasSpread-owned : (view : Viewed) (words : List (List ℕ)) (number : ℕ) (released : List (ℕ × ℕ)) (stock : Stock) (unused : Bool)
    → GainedSoundly view words number released stock
    → IsSoundStage (here_words view words stock) number (Owning stock.class)
    → HasSpread view words number released (owns stock unused).state
HasSpread-owned view words number released stock true gained here =
    let grown_stock = with_block stock (object_bits stock.class) 0 in
    let plain = chooses-plain grown_stock in
    record {
      gained =
          GainedSoundly-kept view words number released grown_stock (chooses grown_stock).state plain.own
          (GainedSoundly-grown view words number released stock (object_bits stock.class) 0 gained here);
      claims = claims_nothing view words number (chooses grown_stock).state (chooses grown_stock).state.phase plain.phase;
    }
HasSpread-owned view words number released stock false gained here =
    record {
      gained =
          GainedSoundly-kept view words number released stock (record stock { phase = ReadBitmap })
          (KeepsOwn-marked stock (record stock { phase = ReadBitmap }) refl) gained;
      claims = here;
    }

HasSpread-from : (view : Viewed) (words : List (List ℕ)) (number : ℕ) (released : List (ℕ × ℕ)) (stock : Stock) (unused : Bool)
    (backup : ℕ) → IsReady view number stock.class stock → GainedSoundly view words number released stock
    → IsOwner (here_words view words stock) number stock.class
    → HaveWord (here_words view words stock) backup (owned number stock.class)
    → HasSpread view words number released (spreads_from stock unused backup).state
HasSpread-from view words number released stock unused backup ready gained owner have =
    by (nat_lt (backup + 1) (replica_count (view_of stock) (word_at_block stock))) refl
  where
    long : replica_count (view_of stock) (word_at_block stock) ≡ length (here_words view words stock)
    long = count_held view number stock ready ∙ sym (length-block_words view words (region_at stock) (block_at stock))

    by : (t : Bool) → nat_lt (backup + 1) (replica_count (view_of stock) (word_at_block stock)) ≡ t
        → HasSpread view words number released (spreads_from stock unused backup).state
    by true more =
        rw more
        (record {
          gained =
              GainedSoundly-kept view words number released stock (record stock { phase = Spread unused backup })
              (KeepsOwn-marked stock (record stock { phase = Spread unused backup }) refl) gained;
          claims = (
            owner,
            omega (arith, ltb-true (backup + 1) (replica_count (view_of stock) (word_at_block stock)) more, long),
            have,
          );
        })
    by false last =
        rw last
        (HasSpread-owned view words number released stock unused gained
        (rw last at
        (IsSoundStage-spreads (here_words view words stock) (replica_count (view_of stock) (word_at_block stock)) number stock.class
        backup long owner have)))

-- ---- the block's word is read

IsLed-spread : (view : Viewed) (words : List (List ℕ)) (number : ℕ) (released : List (ℕ × ℕ)) (stock later : Stock)
    → IsBefore view words number released stock → HasSpread view words number released later
    → IsLed view words words number released later
IsLed-spread view words number released stock later before spread =
    record {
      blocks = before.blocks;
      others = λ other apart. WordsMove-same view words words other (SameBlocks-equal view words words refl);
      classes = KeepsClass-same view words words (SameBlocks-equal view words words refl);
      gained = spread.gained;
      claims = spread.claims;
    }

IsLed-plain_here : (view : Viewed) (words : List (List ℕ)) (number : ℕ) (released : List (ℕ × ℕ)) (stock later : Stock)
    → IsBefore view words number released stock → IsPlain stock later → IsLed view words words number released later
IsLed-plain_here view words number released stock later before plain =
    IsLed-plain view words words number released stock later before (SameBlocks-equal view words words refl) plain

-- the client claims the block
IsLed-claiming : (view : Viewed) (words : List (List ℕ)) (number : ℕ) (released : List (ℕ × ℕ)) (stock : Stock) (found : ℕ)
    → IsBefore view words number released stock → (found ≡ 0) ⊎ (found ≡ free_word stock.class)
    → IsLed view words words number released (record stock { phase = Claim found })
IsLed-claiming view words number released stock found before may =
    IsLed-spread view words number released stock (record stock { phase = Claim found }) before
    (record {
      gained =
          GainedSoundly-kept view words number released stock (record stock { phase = Claim found })
          (KeepsOwn-marked stock (record stock { phase = Claim found }) refl) before.gained;
      claims = (client_within view number stock before.ready, before.ready.below, may);
    })

IsLed-on_block : (view : Viewed) (words : List (List ℕ)) (number : ℕ) (released : List (ℕ × ℕ)) (stock : Stock) (found : ℕ)
    (block : Option BlockWord) → IsBefore view words number released stock → block_in found ≡ block
    → primary_of (here_words view words stock) ≡ found
    → IsLed view words words number released (on_block stock found block).state
IsLed-on_block view words number released stock found None before is primary =
    IsLed-plain_here view words number released stock (next_block stock).state before (next_block-plain stock)
IsLed-on_block view words number released stock found (Some Unused) before is primary =
    IsLed-claiming view words number released stock found before (inl (sym (block_in-gives found Unused is).1))
IsLed-on_block view words number released stock found (Some (Released class)) before is primary = by (class == stock.class) refl
  where
    by : (t : Bool) → (class == stock.class) ≡ t
        → IsLed view words words number released (on_block stock found (Some (Released class))).state
    by true same =
        rw same
        (IsLed-claiming view words number released stock found before
        (inr
        (subst (λ c. found ≡ free_word c) (eqb-true class stock.class same) (sym (block_in-gives found (Released class) is).1))))
    by false other =
        rw other
        (IsLed-plain_here view words number released stock (next_block stock).state before (next_block-plain stock))
IsLed-on_block view words number released stock found (Some (Owned client class)) before is primary =
    by ((client == stock.client) && (class == stock.class)) refl
  where
    by : (t : Bool) → ((client == stock.client) && (class == stock.class)) ≡ t
        → IsLed view words words number released (on_block stock found (Some (Owned client class))).state
    by true own =
        let both = and_parts (client == stock.client) (class == stock.class) own in
        let client_is : client ≡ number = eqb-true client stock.client both.0 ∙ before.ready.is_stock.owner in
        let class_is : class ≡ stock.class = eqb-true class stock.class both.1 in
        let word : found ≡ owned number stock.class =
        sym (block_in-gives found (Owned client class) is).1
        ∙ (ap (λ c. owned c class) client_is ∙ ap (λ c. owned number c) class_is) in
        rw own
        (IsLed-spread view words number released stock (spreads_from stock false 0).state before
        (HasSpread-from view words number released stock false 0 before.ready before.gained
        (record {
          client_within = client_within view number stock before.ready;
          class_within = before.ready.below;
          primary = primary ∙ word;
        })
        (λ place below. absurd (omega arith))))
    by false other =
        rw other
        (IsLed-plain_here view words number released stock (next_block stock).state before (next_block-plain stock))

pub IsLed-read : (view : Viewed) (words : List (List ℕ)) (number : ℕ) (released : List (ℕ × ℕ)) (stock : Stock) (found : ℕ)
    → IsBefore view words number released stock → primary_of (here_words view words stock) ≡ found
    → IsLed view words words number released (on_block_word stock found).state
IsLed-read view words number released stock found before primary = by (is_own stock (region_at stock) (block_at stock)) refl
  where
    by : (t : Bool) → is_own stock (region_at stock) (block_at stock) ≡ t
        → IsLed view words words number released (on_block_word stock found).state
    by true own =
        rw own (IsLed-plain_here view words number released stock (next_block stock).state before (next_block-plain stock))
    by false other =
        rw other (IsLed-on_block view words number released stock found (block_in found) before refl primary)

-- the bitmap of a block that was used before is read, and the block is gained
pub IsLed-bitmap : (view : Viewed) (words : List (List ℕ)) (number : ℕ) (released : List (ℕ × ℕ)) (stock : Stock) (waiting : ℕ)
    → IsBefore view words number released stock
    → IsSoundStage (here_words view words stock) number (Owning stock.class)
    → IsLed view words words number released (asks_from (with_awaited (with_block stock 0 waiting) []) 1).state
IsLed-bitmap view words number released stock waiting before here =
    let block = with_block stock 0 waiting in
    let plain = asks_with-plain block [] 1 in
    let later = (asks_from (with_awaited block []) 1).state in
    IsLed-spread view words number released stock later before
    (record {
      gained =
          GainedSoundly-kept view words number released block later plain.own
          (GainedSoundly-grown view words number released stock 0 waiting before.gained here);
      claims = claims_nothing view words number later later.phase plain.phase;
    })

-- ---- a word of the block at the position is written

-- the words of the block at the position are these, and no other block's have changed
pub record IsWritten (view : Viewed) (words new : List (List ℕ)) (region block : ℕ) (list : List ℕ) : Type 0 where
  pub within : IsBlockOf view region block
  pub here : block_words view new region block ≡ list
  pub elsewhere : (other of_other : ℕ) → IsBlockOf view other of_other → (((other ≡ region) × (of_other ≡ block)) → ⊥)
      → block_words view new other of_other ≡ block_words view words other of_other

pub IsWritten-verb : (view : Viewed) (words : List (List ℕ)) (region block j : ℕ) (verb : Verb) → IsView view
    → HasAllPlaces view words → IsBlockOf view region block → j < block_count view region block
    → place_of verb ≡ block_place view region block j → IsInPool view.shape (place_of verb)
    → IsWritten view words (words_after words verb false) region block
    (slice_set (block_words view words region block) j (word_after verb (slice_index (block_words view words region block) j)))
IsWritten-verb view words region block j verb is places within inside at in_pool =
    record {
      within = within;
      here = block_words-verb view words region block j verb is within inside at (places (place_of verb) in_pool);
      elsewhere = λ other of_other of_within apart.
          block_words-elsewhere view words other of_other verb
          (subst (λ place. (i : ℕ) → i < block_count view other of_other → block_place view other of_other i ≢ place) (sym at)
          (IsElsewhere-block view other of_other region block j is of_within within inside apart));
    }

-- what holds of the block's new words, and of the others' as before, holds of all
pub BlocksAreSound-written : (view : Viewed) (words new : List (List ℕ)) (region block : ℕ) (list : List ℕ)
    → IsWritten view words new region block list → BlocksAreSound view words → IsSoundWords list → BlocksAreSound view new
BlocksAreSound-written view words new region block list written sound here other of_other within =
    elim (block_cases other of_other region block) [
      | inl same ↦
          subst (λ r. IsSoundWords (block_words view new r of_other)) (sym same.0)
          (subst (λ b. IsSoundWords (block_words view new region b)) (sym same.1)
          (subst (λ l. IsSoundWords l) (sym written.here) here))
      | inr apart ↦
          subst (λ l. IsSoundWords l) (sym (written.elsewhere other of_other within apart)) (sound other of_other within)
    ]

pub WordsMove-written : (view : Viewed) (words new : List (List ℕ)) (region block number : ℕ) (list : List ℕ)
    → IsWritten view words new region block list
    → ((stage : Stage) → IsSoundStage (block_words view words region block) number stage → IsSoundStage list number stage)
    → WordsMove view words new number
unfolding WordsMove
WordsMove-written view words new region block number list written here other of_other within stage is =
    elim (block_cases other of_other region block) [
      | inl same ↦
          subst (λ r. IsSoundStage (block_words view new r of_other) number stage) (sym same.0)
          (subst (λ b. IsSoundStage (block_words view new region b) number stage) (sym same.1)
          (subst (λ l. IsSoundStage l number stage) (sym written.here)
          (here stage
          (subst (λ r. IsSoundStage (block_words view words r block) number stage) same.0
          (subst (λ b. IsSoundStage (block_words view words other b) number stage) same.1 is)))))
      | inr apart ↦
          subst (λ l. IsSoundStage l number stage) (sym (written.elsewhere other of_other within apart)) is
    ]

pub KeepsClass-written : (view : Viewed) (words new : List (List ℕ)) (region block : ℕ) (list : List ℕ)
    → IsWritten view words new region block list
    → ((class : ℕ) → class < CLASSES
    → (IsOfClass (primary_of (block_words view words region block)) class → IsOfClass (primary_of list) class)
    × (IsOpenTo (primary_of list) class → IsOpenTo (primary_of (block_words view words region block)) class))
    → KeepsClass view words new
unfolding KeepsClass
KeepsClass-written view words new region block list written here other of_other class within below =
    elim (block_cases other of_other region block) [
      | inl same ↦
          subst (λ r. Kept (block_words view words r of_other) (block_words view new r of_other)) (sym same.0)
          (subst (λ b. Kept (block_words view words region b) (block_words view new region b)) (sym same.1)
          (subst (λ l. Kept (block_words view words region block) l) (sym written.here) (here class below)))
      | inr apart ↦
          subst (λ l. Kept (block_words view words other of_other) l) (sym (written.elsewhere other of_other within apart))
          (λ is. is, λ is. is)
    ]
  where
    Kept : List ℕ → List ℕ → Type 0
    Kept old later =
        (IsOfClass (primary_of old) class → IsOfClass (primary_of later) class)
        × (IsOpenTo (primary_of later) class → IsOpenTo (primary_of old) class)

-- what a client has gained stays so, if it does on this block
pub GainedSoundly-written : (view : Viewed) (words new : List (List ℕ)) (region block number : ℕ) (list : List ℕ)
    (released : List (ℕ × ℕ)) (stock : Stock) → IsWritten view words new region block list → IsStock view.shape number stock
    → ((class : ℕ) → (Contains released (region, block) → ⊥)
    → IsSoundStage (block_words view words region block) number (Gained class)
    → IsSoundStage list number (Gained class))
    → GainedSoundly view words number released stock → GainedSoundly view new number released stock
GainedSoundly-written view words new region block number list released stock written is here gained class own has kept =
    elim (block_cases own.region own.block region block) [
      | inl same ↦
          subst (λ r. IsSoundStage (block_words view new r own.block) number (Gained class)) (sym same.0)
          (subst (λ b. IsSoundStage (block_words view new region b) number (Gained class)) (sym same.1)
          (subst (λ l. IsSoundStage l number (Gained class)) (sym written.here)
          (here class
          (λ begun.
          kept
          (subst (λ r. Contains released (r, own.block)) (sym same.0)
          (subst (λ b. Contains released (region, b)) (sym same.1) begun)))
          (subst (λ r. IsSoundStage (block_words view words r block) number (Gained class)) same.0
          (subst (λ b. IsSoundStage (block_words view words own.region b) number (Gained class)) same.1
          (gained class own has kept))))))
      | inr apart ↦
          subst (λ l. IsSoundStage l number (Gained class))
          (sym (written.elsewhere own.region own.block (own_block view number class stock own is has) apart))
          (gained class own has kept)
    ]

-- ---- the block is claimed

-- the swap found the word that was read, and the client goes on to the backups
pub IsLed-claimed : (view : Viewed) (words new : List (List ℕ)) (number word : ℕ) (released : List (ℕ × ℕ)) (stock : Stock)
    → IsBefore view words number released stock → (word ≡ 0) ⊎ (word ≡ free_word stock.class)
    → primary_of (here_words view words stock) ≡ word
    → IsWritten view words new (region_at stock) (block_at stock)
    (slice_set (here_words view words stock) (length (here_words view words stock) - 1) (owned number stock.class))
    → IsLed view words new number released (spreads_from stock (word == 0) 0).state
IsLed-claimed view words new number word released stock before may found written =
    let old = here_words view words stock in
    let list = slice_set old (length old - 1) (owned number stock.class) in
    let client = client_within view number stock before.ready in
    let sound = before.blocks (region_at stock) (block_at stock) written.within in
    let claimable : (primary_of old ≡ 0) ⊎ (primary_of old ≡ free_word stock.class) =
    elim may [ inl unused ↦ inl (found ∙ unused) | inr free ↦ inr (found ∙ free) ] in
    let nobody : (other : ℕ) → IsNoOwner old other = λ other.
    IsNoOwner-claimable old other stock.class before.ready.below claimable in
    let gained : GainedSoundly view new number released stock =
    GainedSoundly-written view words new (region_at stock) (block_at stock) number list released stock written
    before.ready.is_stock
    (λ class kept is. IsSoundStage-other old list number (Gained class) (nobody number) is) before.gained in
    let owner : IsOwner (here_words view new stock) number stock.class =
    subst (λ l. IsOwner l number stock.class) (sym written.here)
    (record {
      client_within = client;
      class_within = before.ready.below;
      primary = primary-written old (owned number stock.class) sound.some;
    }) in
    let spread = HasSpread-from view new number released stock (word == 0) 0 before.ready gained owner
    (λ place below. absurd (omega arith)) in
    record {
      blocks =
          BlocksAreSound-written view words new (region_at stock) (block_at stock) list written before.blocks
          (IsSoundWords-claimed old number stock.class sound client before.ready.below claimable);
      others = λ other apart.
          WordsMove-written view words new (region_at stock) (block_at stock) other list written
          (λ stage is. IsSoundStage-other old list other stage (nobody other) is);
      classes =
          KeepsClass-written view words new (region_at stock) (block_at stock) list written
          (λ class below. (
            class-claimed old number stock.class class sound.some before.ready.below below claimable,
            opened-claimed old number stock.class class sound.some before.ready.below below claimable,
          ));
      gained = spread.gained;
      claims = spread.claims;
    }

-- the client's word is written to a backup
IsSoundStage-own : (old : List ℕ) (number class of_class backup : ℕ) → IsOwner old number class → backup + 1 < length old
    → IsSoundStage old number (Gained of_class)
    → IsSoundStage (slice_set old backup (owned number class)) number (Gained of_class)
IsSoundStage-own old number class of_class backup owner below is =
    let same = (owned-same number number class of_class owner.client_within owner.class_within is.0.client_within
    is.0.class_within (sym owner.primary ∙ is.0.primary)).1 in (
      IsOwner-kept old (slice_set old backup (owned number class)) number of_class
          (primary-backup old backup (owned number class) below) is.0,
      λ place within.
          at_set (λ w. w ≡ owned number of_class) old backup place (owned number class) (omega (arith, below))
          (λ here. ap (λ c. owned number c) same)
          (λ apart. is.1 place (omega (arith, length-set old backup (owned number class)))),
    )

pub IsLed-backup : (view : Viewed) (words new : List (List ℕ)) (number backup : ℕ) (unused : Bool) (released : List (ℕ × ℕ))
    (stock : Stock) → IsBefore view words number released stock
    → IsSoundStage (here_words view words stock) number (Spreading stock.class backup)
    → IsWritten view words new (region_at stock) (block_at stock)
    (slice_set (here_words view words stock) backup (owned number stock.class))
    → IsLed view words new number released (spreads_from stock unused (backup + 1)).state
IsLed-backup view words new number backup unused released stock before is written =
    let old = here_words view words stock in
    let list = slice_set old backup (owned number stock.class) in
    let sound = before.blocks (region_at stock) (block_at stock) written.within in
    let gained : GainedSoundly view new number released stock =
    GainedSoundly-written view words new (region_at stock) (block_at stock) number list released stock written
    before.ready.is_stock
    (λ class kept has. IsSoundStage-own old number stock.class class backup is.0 is.1 has) before.gained in
    let owner : IsOwner (here_words view new stock) number stock.class =
    subst (λ l. IsOwner l number stock.class) (sym written.here)
    (IsOwner-kept old list number stock.class (primary-backup old backup (owned number stock.class) is.1) is.0) in
    let have : HaveWord (here_words view new stock) (backup + 1) (owned number stock.class) =
    subst (λ l. HaveWord l (backup + 1) (owned number stock.class)) (sym written.here)
    (HaveWord-more old backup (owned number stock.class) (omega (arith, is.1)) is.2) in
    let spread = HasSpread-from view new number released stock unused (backup + 1) before.ready gained owner have in
    record {
      blocks =
          BlocksAreSound-written view words new (region_at stock) (block_at stock) list written before.blocks
          (IsSoundWords-backup old number stock.class backup (owned number stock.class) sound is.0 is.1 (inl refl));
      others = λ other apart.
          WordsMove-written view words new (region_at stock) (block_at stock) other list written
          (λ stage has. IsSoundStage-other old list other stage (IsNoOwner-other old number other stock.class is.0 apart) has);
      classes =
          KeepsClass-written view words new (region_at stock) (block_at stock) list written
          (λ class below. (
            class-backup old backup (owned number stock.class) class is.1,
            opened-backup old backup (owned number stock.class) class is.1,
          ));
      gained = spread.gained;
      claims = spread.claims;
    }

-- the swap found another word, and changed nothing
pub SameBlocks-unchanged : (view : Viewed) (words new : List (List ℕ)) (region block j : ℕ)
    → IsWritten view words new region block
    (slice_set (block_words view words region block) j (slice_index (block_words view words region block) j))
    → SameBlocks view words new
unfolding SameBlocks
SameBlocks-unchanged view words new region block j written other of_other within =
    elim (block_cases other of_other region block) [
      | inl same ↦
          subst (λ r. block_words view new r of_other ≡ block_words view words r of_other) (sym same.0)
          (subst (λ b. block_words view new region b ≡ block_words view words region b) (sym same.1)
          (written.here ∙ set-get_or (block_words view words region block) j 0))
      | inr apart ↦ written.elsewhere other of_other within apart
    ]
