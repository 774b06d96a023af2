-- Which blocks a client has gained after each turn of its choosing: those that it had, and the one whose words it has written.
use Rattle.std.proofs.Common.{◌≡◌, ℕ, ◌+◌, ◌*◌, ◌<◌, ◌==◌, inl, inr, Bool, true, false, ◌&&◌, List, length, map, get_or, Option, Some, None, refl, sym, ap, subst, ◌∙◌, arith, length-set, get_or-set_other, get_or-set_same}
use Rattle.std.specs.Prelude.{Contains, not, nat_le, nat_lt, slice_index_or, slice_set}
use Rattle.std.proofs.lemmas.Bool.{cases_eq, cases_lt}
use Rattle.std.proofs.lemmas.List.{get_or-map, get_or_default, length-map, set_past}
use Rattle.machine.specs.Choosing.{asked, asks_after, asks_from, at_block, begins, chooses, first_awaited, looks, next_block, no_block, not_awaited, on_first, on_scan, own_at, ripens, scanned_all, taken, takes, with_awaited, with_scanned}
use Rattle.machine.specs.Stock.{AskFirst, Ask, Claim, ClassStock, OwnBlock, Phase, ReadBitmap, ReadBlock, Rest, Scan, Spread, Stock, any_waits, class_stock, cleared_block, first_free, no_stock, ripened, ripened_block, scanned_block, with_class_stock, with_reserve}
use Rattle.reuse_epoch.specs.Awaited.{Awaited, begin_of, client_of, still_awaited}

-- the blocks that a client has gained for a class
abbrev pub own_of : Stock → ℕ → List OwnBlock
own_of stock class = (slice_index_or stock.classes class no_stock).own

-- the block is among these, perhaps with other bits
pub record IsAmong (list : List OwnBlock) (own : OwnBlock) : Type 0 where
  pub old : OwnBlock
  pub has : Contains list old
  pub region : old.region ≡ own.region
  pub block : old.block ≡ own.block

abbrev pub AreAmong : List OwnBlock → List OwnBlock → Type 0
AreAmong list new = (own : OwnBlock) → Contains new own → IsAmong list own

-- the client has gained no further block
abbrev pub KeepsOwn : Stock → Stock → Type 0
KeepsOwn stock new = (class : ℕ) → AreAmong (own_of stock class) (own_of new class)

-- no claim is under way at such a phase
abbrev pub ClaimsNothing : Phase → Type 0
ClaimsNothing (Claim word) = ⊥
ClaimsNothing (Spread unused backup) = ⊥
ClaimsNothing ReadBitmap = ⊥
ClaimsNothing other = Unit {0}

pub record IsPlain (stock new : Stock) : Type 0 where
  pub own : KeepsOwn stock new
  pub phase : ClaimsNothing new.phase

pub AreAmong-same : (list : List OwnBlock) → AreAmong list list
AreAmong-same list own has = record { old = own; has = has; region = refl; block = refl }

pub AreAmong-map : (f : OwnBlock → OwnBlock) (list : List OwnBlock)
    → ((own : OwnBlock) → ((f own).region ≡ own.region) × ((f own).block ≡ own.block)) → AreAmong list (map f list)
AreAmong-map f list same own has =
    let within : has.0 < length list = omega (arith, has.1, length-map list f) in
    let old = get_or list has.0 no_block in
    let is : f old ≡ own = sym (get_or-map f list has.0 no_block own within) ∙ has.2 in
    record {
      old = old;
      has = (has.0, within, get_or_default list has.0 old no_block within);
      region = sym (same old).0 ∙ ap (λ (o : OwnBlock). o.region) is;
      block = sym (same old).1 ∙ ap (λ (o : OwnBlock). o.block) is;
    }

AreAmong-set : (list : List OwnBlock) (i : ℕ) (new : OwnBlock) → i < length list
    → new.region ≡ (get_or list i no_block).region → new.block ≡ (get_or list i no_block).block
    → AreAmong list (slice_set list i new)
AreAmong-set list i new below same_region same_block own has =
    let within : has.0 < length list = omega (arith, has.1, length-set list i new) in
    elim (cases_eq has.0 i) [
      | inl at ↦
          let is : new ≡ own = sym (get_or-set_same list i new own below)
          ∙ subst (λ k. get_or (slice_set list i new) k own ≡ own) at has.2 in
          let old = get_or list i no_block in
          record {
            old = old;
            has = (i, below, get_or_default list i old no_block below);
            region = sym same_region ∙ ap (λ (o : OwnBlock). o.region) is;
            block = sym same_block ∙ ap (λ (o : OwnBlock). o.block) is;
          }
      | inr apart ↦
          record {
            old = own;
            has = (has.0, within, sym (get_or-set_other list i has.0 new own apart) ∙ has.2);
            region = refl;
            block = refl;
          }
    ]

KeepsOwn-on : (stock middle new : Stock) → KeepsOwn stock middle → KeepsOwn middle new → KeepsOwn stock new
KeepsOwn-on stock middle new first second class own has =
    let one = second class own has in
    let zero = first class one.old one.has in
    record { old = zero.old; has = zero.has; region = zero.region ∙ one.region; block = zero.block ∙ one.block }

-- the stock of one class is replaced
pub own-replaced : (P : List OwnBlock → Type 0) (classes : List ClassStock) (class other : ℕ) (of_class : ClassStock)
    → (other ≡ class → P of_class.own) → P (slice_index_or classes other no_stock).own
    → P (slice_index_or (slice_set classes class of_class) other no_stock).own
own-replaced P classes class other of_class here there =
    elim (cases_eq other class) [
      | inl same ↦
          elim (cases_lt class (length classes)) [
            | inl within ↦ rw (same, get_or-set_same classes class of_class no_stock within) (here same)
            | inr past ↦ rw (set_past classes class of_class past) there
          ]
      | inr apart ↦ rw (get_or-set_other classes class other of_class no_stock apart) there
    ]

KeepsOwn-class : (stock : Stock) (of_class : ClassStock) → AreAmong (class_stock stock).own of_class.own
    → KeepsOwn stock (with_class_stock stock of_class)
KeepsOwn-class stock of_class among class =
    own-replaced (AreAmong (own_of stock class)) stock.classes stock.class class of_class
    (λ same. subst (λ c. AreAmong (own_of stock c) of_class.own) (sym same) among)
    (AreAmong-same (own_of stock class))

-- a phase, a mark or a position changes none
pub KeepsOwn-marked : (stock new : Stock) → new.classes ≡ stock.classes → KeepsOwn stock new
KeepsOwn-marked stock new same class =
    subst (λ (classes : List ClassStock). AreAmong (own_of stock class) (slice_index_or classes class no_stock).own) (sym same)
    (AreAmong-same (own_of stock class))

plain_on : (stock middle new : Stock) → KeepsOwn stock middle → IsPlain middle new → IsPlain stock new
plain_on stock middle new first plain = record { own = KeepsOwn-on stock middle new first plain.own; phase = plain.phase }

-- ---- turns that gain no block

pub at_block-plain : (stock : Stock) → IsPlain stock (at_block stock).state
at_block-plain stock = by (nat_lt stock.position (stock.shape.regions * stock.shape.blocks)) refl
  where
    by : (t : Bool) → nat_lt stock.position (stock.shape.regions * stock.shape.blocks) ≡ t → IsPlain stock (at_block stock).state
    by true within = rw within (record { own = KeepsOwn-marked stock (record stock { phase = ReadBlock }) refl; phase = tt })
    by false last = rw last (record { own = KeepsOwn-marked stock (record stock { phase = Rest }) refl; phase = tt })

pub next_block-plain : (stock : Stock) → IsPlain stock (next_block stock).state
next_block-plain stock =
    let moved = record stock { position = stock.position + 1 } in
    plain_on stock moved (next_block stock).state (KeepsOwn-marked stock moved refl) (at_block-plain moved)

takes-plain : (stock : Stock) (free : ℕ) → IsPlain stock (takes stock free).state
takes-plain stock free = by (class_stock stock).reserve refl
  where
    by : (reserve : Option ℕ) → (class_stock stock).reserve ≡ reserve → IsPlain stock (takes stock free).state
    by (Some reserve) some = rw some (record { own = KeepsOwn-marked stock (record stock { phase = Rest }) refl; phase = tt })
    by None none = rw none (record {
      own = KeepsOwn-class stock (record (class_stock stock) { reserve = Some free }) (AreAmong-same (class_stock stock).own);
      phase = tt;
    })

looks-plain : (stock : Stock) → IsPlain stock (looks stock).state
looks-plain stock = by (nat_lt 0 (length (class_stock stock).awaited)) refl (not stock.scanned && nat_lt 0 (length (class_stock stock).own)) refl
  where
    by : (t : Bool) → nat_lt 0 (length (class_stock stock).awaited) ≡ t → (u : Bool)
        → (not stock.scanned && nat_lt 0 (length (class_stock stock).own)) ≡ u → IsPlain stock (looks stock).state
    by true some u scan = rw some (record { own = KeepsOwn-marked stock (record stock { phase = AskFirst }) refl; phase = tt })
    by false none true scan =
        rw (none, scan) (record { own = KeepsOwn-marked stock (record stock { phase = Scan 0 }) refl; phase = tt })
    by false none false done = rw (none, done) (at_block-plain stock)

pub chooses-plain : (stock : Stock) → IsPlain stock (chooses stock).state
chooses-plain stock = by (first_free stock.class (class_stock stock)) refl
  where
    by : (free : Option ℕ) → first_free stock.class (class_stock stock) ≡ free → IsPlain stock (chooses stock).state
    by None none = rw none (looks-plain stock)
    by (Some free) some = rw some (takes-plain stock free)

pub begins-plain : (stock : Stock) (mask class : ℕ) → IsPlain stock (begins stock mask class).state
begins-plain stock mask class =
    let new = record stock { mask = mask; class = class; scanned = false; position = 0 } in
    plain_on stock new (begins stock mask class).state (KeepsOwn-marked stock new refl) (chooses-plain new)

ripens-plain : (stock : Stock) → IsPlain stock (ripens stock).state
ripens-plain stock =
    let ripe = with_class_stock stock (ripened (class_stock stock)) in
    plain_on stock ripe (ripens stock).state
    (KeepsOwn-class stock (ripened (class_stock stock))
    (AreAmong-map ripened_block (class_stock stock).own (λ own. (refl, refl))))
    (chooses-plain ripe)

asked-plain : (stock : Stock) → IsPlain stock (asked stock).state
asked-plain stock = by (length (class_stock stock).awaited == 0) refl
  where
    by : (t : Bool) → (length (class_stock stock).awaited == 0) ≡ t → IsPlain stock (asked stock).state
    by true none = rw none (ripens-plain stock)
    by false some = rw some (at_block-plain stock)

asks_after-plain : (stock : Stock) (client : ℕ) → IsPlain stock (asks_after stock client).state
asks_after-plain stock client = by (nat_le client stock.shape.clients) refl
  where
    by : (t : Bool) → nat_le client stock.shape.clients ≡ t → IsPlain stock (asks_after stock client).state
    by true within = rw within (record { own = KeepsOwn-marked stock (record stock { phase = Ask client }) refl; phase = tt })
    by false beyond = rw beyond (asked-plain stock)

pub asks_from-plain : (stock : Stock) (client : ℕ) → IsPlain stock (asks_from stock client).state
asks_from-plain stock client = by (client == stock.client) refl
  where
    by : (t : Bool) → (client == stock.client) ≡ t → IsPlain stock (asks_from stock client).state
    by true own = rw own (asks_after-plain stock (client + 1))
    by false other = rw other (asks_after-plain stock client)

KeepsOwn-awaited : (stock : Stock) (awaited : List Awaited) → KeepsOwn stock (with_awaited stock awaited)
KeepsOwn-awaited stock awaited =
    KeepsOwn-class stock (record (class_stock stock) { awaited = awaited }) (AreAmong-same (class_stock stock).own)

pub asks_with-plain : (stock : Stock) (awaited : List Awaited) (client : ℕ)
    → IsPlain stock (asks_from (with_awaited stock awaited) client).state
asks_with-plain stock awaited client =
    plain_on stock (with_awaited stock awaited) (asks_from (with_awaited stock awaited) client).state
    (KeepsOwn-awaited stock awaited) (asks_from-plain (with_awaited stock awaited) client)

not_awaited-plain : (stock : Stock) → IsPlain stock (not_awaited stock).state
not_awaited-plain stock = by (length (class_stock stock).awaited == 0) refl
  where
    by : (t : Bool) → (length (class_stock stock).awaited == 0) ≡ t → IsPlain stock (not_awaited stock).state
    by true none = rw none (ripens-plain stock)
    by false some = rw some (record { own = KeepsOwn-marked stock (record stock { phase = AskFirst }) refl; phase = tt })

pub on_first-plain : (stock : Stock) (found : ℕ) → IsPlain stock (on_first stock found).state
on_first-plain stock found = by (found == begin_of (first_awaited stock)) refl
  where
    still : List Awaited
    still = still_awaited (class_stock stock).awaited (client_of (first_awaited stock)) found

    by : (t : Bool) → (found == begin_of (first_awaited stock)) ≡ t → IsPlain stock (on_first stock found).state
    by true same = rw same (at_block-plain stock)
    by false other =
        rw other
        (plain_on stock (with_awaited stock still) (not_awaited (with_awaited stock still)).state (KeepsOwn-awaited stock still)
        (not_awaited-plain (with_awaited stock still)))

scanned_all-plain : (stock : Stock) → IsPlain stock (scanned_all stock).state
scanned_all-plain stock = by (any_waits (class_stock stock)) refl
  where
    by : (t : Bool) → any_waits (class_stock stock) ≡ t → IsPlain stock (scanned_all stock).state
    by true some = rw some (asks_from-plain stock 1)
    by false none = rw none (at_block-plain stock)

on_scan-plain : (stock : Stock) (i : ℕ) → IsPlain stock (on_scan stock i).state
on_scan-plain stock i = by (nat_lt (i + 1) (length (class_stock stock).own)) refl
  where
    by : (t : Bool) → nat_lt (i + 1) (length (class_stock stock).own) ≡ t → IsPlain stock (on_scan stock i).state
    by true more = rw more (record { own = KeepsOwn-marked stock (record stock { phase = Scan (i + 1) }) refl; phase = tt })
    by false last =
        rw last
        (plain_on stock (record stock { scanned = true }) (on_scan_last stock) (KeepsOwn-marked stock (record stock { scanned = true }) refl)
        (scanned_all-plain (record stock { scanned = true })))
      where
        on_scan_last : Stock → Stock
        on_scan_last of_stock = (scanned_all (record of_stock { scanned = true })).state

pub scans-plain : (stock : Stock) (i found : ℕ) → i < length (class_stock stock).own
    → IsPlain stock (on_scan (with_scanned stock i found) i).state
scans-plain stock i found below =
    let new = with_scanned stock i found in
    plain_on stock new (on_scan new i).state
    (KeepsOwn-class stock
    (record (class_stock stock) {
      own = slice_set (class_stock stock).own i (scanned_block stock.class (class_stock stock) (own_at stock i) found);
    })
    (AreAmong-set (class_stock stock).own i (scanned_block stock.class (class_stock stock) (own_at stock i) found) below refl refl))
    (on_scan-plain new i)

-- the next reserve is the reserve
pub taken-own : (stock : Stock) (class next : ℕ) → KeepsOwn stock (taken stock class next)
taken-own stock class next other =
    let of_class = slice_index_or stock.classes class no_stock in
    own-replaced (AreAmong (own_of stock other)) stock.classes class other (with_reserve class of_class next)
    (λ same.
    subst (λ c. AreAmong (own_of stock c) (map (cleared_block class of_class) of_class.own)) (sym same)
    (AreAmong-map (cleared_block class of_class) of_class.own (λ own. (refl, refl))))
    (AreAmong-same (own_of stock other))
