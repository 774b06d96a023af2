-- The next reserve of a class changes no block and nobody who is awaited.
use Rattle.std.proofs.Common.{◌≡◌, ◌≢◌, ℕ, zero, suc, ◌<◌, ◌⊎◌, inl, inr, Bool, true, false, ◌||◌, ◌==◌, List, [], ◌∷◌, length, map, get_or, refl, sym, ap, subst, ◌∙◌, arith}
use Rattle.std.specs.Prelude.{All, slice_index_or, slice_set}
use Rattle.std.specs.List.{list_any}
use Rattle.std.proofs.lemmas.Bool.Decides.{eqb_tells}
use Rattle.std.proofs.lemmas.List.{get_or-set_other, get_or-set_same, length-map}
use Rattle.machine.specs.Choosing.{IsAt, block_at, region_at, taken}
use Rattle.machine.specs.ObjectNames.{names_object}
use Rattle.machine.specs.Stock.{AskFirst, Ask, Claim, ClassStock, IsStock, OwnBlock, Phase, ReadBitmap, ReadBlock, Rest, Scan, Spread, Stock, WriteHead, class_stock, cleared_block, is_block, is_own, no_stock, with_reserve}
use Rattle.machine.proofs.ChoosingLemmas.{taken-is}
use Rattle.object_alloc.proofs.HeldLemmas.{apart-map, set-apart}
use Rattle.object_alloc.proofs.StockLemmas.{fit-of}
use Rattle.object_alloc.specs.Held.{HasView, IsHeld, IsOn}
use Rattle.object_form.specs.declared.classes.TheConstants.{CLASSES}
use Rattle.reuse_epoch.specs.Awaited.{client_of}

-- what does not read what is changed of a class
class-keeps : {X : Type 0} (read : ClassStock → X) (classes : List ClassStock) (class other : ℕ) (new : ClassStock) → class < length classes → read new ≡ read (slice_index_or classes class no_stock)
    → read (slice_index_or (slice_set classes class new) other no_stock) ≡ read (slice_index_or classes other no_stock)
class-keeps read classes class other new below same = by (eqb_tells other class)
  where
    by : (((other == class) ≡ true) × (other ≡ class)) ⊎ (((other == class) ≡ false) × (other ≢ class)) → read (slice_index_or (slice_set classes class new) other no_stock) ≡ read (slice_index_or classes other no_stock)
    by (inl (test, is)) = let P : ℕ → Type 0 = λ n. read (slice_index_or (slice_set classes class new) n no_stock) ≡ read (slice_index_or classes n no_stock) in
        subst P (sym is) (ap read (get_or-set_same classes class new no_stock below) ∙ same)
    by (inr (test, differ)) = ap read (get_or-set_other classes class other new no_stock differ)

any-keeps : {X : Type 0} (test : X → Bool) (xs : List X) (k : ℕ) (new d : X) → k < length xs → test new ≡ test (get_or xs k d) → list_any test (slice_set xs k new) ≡ list_any test xs
any-keeps test [] k new d below same = absurd (omega arith)
any-keeps test (x ∷ xs) zero new d below same = ap (λ t. t || list_any test xs) same
any-keeps test (x ∷ xs) (suc k) new d below same = ap (λ t. test x || t) (any-keeps test xs k new d (omega arith) same)

cleared-blocks : (region block class : ℕ) (of_class : ClassStock) (own : List OwnBlock) → list_any (is_block region block) (map (cleared_block class of_class) own) ≡ list_any (is_block region block) own
cleared-blocks region block class of_class [] = refl
cleared-blocks region block class of_class (one ∷ own) = ap (λ t. is_block region block one || t) (cleared-blocks region block class of_class own)

within : (stock : Stock) (class : ℕ) → IsHeld stock → class < CLASSES → class < length stock.classes
within stock class held below = let whole = held.state.whole in omega arith

taken-awaited : (stock : Stock) (class next : ℕ) → IsHeld stock → class < CLASSES → (class_stock (taken stock class next)).awaited ≡ (class_stock stock).awaited
taken-awaited stock class next held below = class-keeps (λ (c : ClassStock). c.awaited) stock.classes class stock.class (with_reserve class (slice_index_or stock.classes class no_stock) next) (within stock class held below) refl

taken-long : (stock : Stock) (class next : ℕ) → IsHeld stock → class < CLASSES → length (class_stock (taken stock class next)).own ≡ length (class_stock stock).own
taken-long stock class next held below =
    class-keeps (λ (c : ClassStock). length c.own) stock.classes class stock.class (with_reserve class (slice_index_or stock.classes class no_stock) next) (within stock class held below)
    (length-map (slice_index_or stock.classes class no_stock).own (cleared_block class (slice_index_or stock.classes class no_stock)))

taken-own : (stock : Stock) (class next : ℕ) → IsHeld stock → class < CLASSES → is_own (taken stock class next) (region_at stock) (block_at stock) ≡ is_own stock (region_at stock) (block_at stock)
taken-own stock class next held below =
    let old = slice_index_or stock.classes class no_stock in
    any-keeps (λ (c : ClassStock). list_any (is_block (region_at stock) (block_at stock)) c.own) stock.classes class (with_reserve class old next) no_stock (within stock class held below)
    (cleared-blocks (region_at stock) (block_at stock) class old old.own)

view-kept : (phase : Phase) (stock : Stock) (class next : ℕ) → HasView phase stock → HasView phase (taken stock class next)
view-kept Rest stock class next has = tt
view-kept AskFirst stock class next has = has
view-kept (Scan own) stock class next has = has
view-kept (Ask client) stock class next has = has
view-kept ReadBlock stock class next has = has
view-kept (Claim word) stock class next has = has
view-kept (Spread unused backup) stock class next has = has
view-kept ReadBitmap stock class next has = has
view-kept WriteHead stock class next has = has

at-kept : (phase : Phase) (stock : Stock) (class next : ℕ) → IsHeld stock → class < CLASSES → IsAt phase stock → IsAt phase (taken stock class next)
at-kept Rest stock class next held below at = tt
at-kept AskFirst stock class next held below at = subst (λ l. 0 < length l) (sym (taken-awaited stock class next held below)) at
at-kept (Scan own) stock class next held below at = subst (λ n. own < n) (sym (taken-long stock class next held below)) at
at-kept (Ask client) stock class next held below at = at
at-kept ReadBlock stock class next held below at = at
at-kept (Claim word) stock class next held below at = at
at-kept (Spread unused backup) stock class next held below at = at
at-kept ReadBitmap stock class next held below at = at
at-kept WriteHead stock class next held below at = tt

on-kept : (phase : Phase) (stock : Stock) (class next : ℕ) → IsHeld stock → class < CLASSES → IsOn phase stock → IsOn phase (taken stock class next)
on-kept Rest stock class next held below on = tt
on-kept AskFirst stock class next held below on = tt
on-kept (Scan own) stock class next held below on = taken-awaited stock class next held below ∙ on
on-kept (Ask client) stock class next held below on = subst (All (λ one. client_of one < client)) (sym (taken-awaited stock class next held below)) on
on-kept ReadBlock stock class next held below on = tt
on-kept (Claim word) stock class next held below on = taken-own stock class next held below ∙ on
on-kept (Spread unused backup) stock class next held below on = taken-own stock class next held below ∙ on
on-kept ReadBitmap stock class next held below on = taken-own stock class next held below ∙ on
on-kept WriteHead stock class next held below on = tt

pub taken-held : (stock : Stock) (class next : ℕ) → IsHeld stock → class < CLASSES → names_object stock.shape class next ≡ true → IsHeld (taken stock class next)
taken-held stock class next held below named =
    let state : IsStock stock.shape stock.client (taken stock class next) = taken-is stock.shape stock.client class next stock held.state below named in
    let old = slice_index_or stock.classes class no_stock in
    record {
      state = state;
      fit = fit-of (taken stock class next) state held.fit.limits held.fit.class;
      number = held.number;
      apart = set-apart stock.shape stock.classes class (with_reserve class old next) (within stock class held below) held.apart
          (apart-map stock.shape (cleared_block class old) old (λ one. refl) (held.apart class below));
      view = view-kept stock.phase stock class next held.view;
      at = at-kept stock.phase stock class next held below held.at;
      on = on-kept stock.phase stock class next held below held.on;
    }
