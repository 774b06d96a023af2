-- Where a bit of an object is set in the blocks that a client has gained, and what each change of these blocks makes of it.
use Rattle.std.proofs.Common.{◌≡◌, ℕ, ◌<◌, ◌⊎◌, inl, inr, List, [], ◌∷◌, ◌++◌, length, map, get_or, refl, sym, ap, subst, ◌∙◌, arith, length-set, get_or-set_other, get_or-set_same}
use Rattle.std.specs.Prelude.{slice_set}
use Rattle.std.specs.List.{Contains}
use Rattle.std.specs.Int.{bit_at}
use Rattle.std.proofs.lemmas.Bool.{cases_eq}
use Rattle.std.proofs.lemmas.List.{get_or-map, get_or_default, length-map}
use Rattle.std.proofs.lemmas.List.Elements.{Contains-append_cases}
use Rattle.machine.specs.Choosing.{no_block}
use Rattle.machine.specs.ObjectNames.{Object, block_of, number_of}
use Rattle.machine.specs.Stock.{ClassStock, OwnBlock, cleared_block, reserve_bit, ripened_block, scanned_block}
use Rattle.pointer_fields.specs.Pointer.{region_of}
use Rattle.object_division.proofs.BitLemmas.{bit_at-without, either, no_bit}

-- the object's block is one of these, and this holds of it
pub record IsIn (P : OwnBlock → Type 0) (object : Object) (list : List OwnBlock) : Type 0 where
  pub own : OwnBlock
  pub has : Contains list own
  pub region_is : own.region ≡ region_of object.pointer
  pub block_is : own.block ≡ block_of object.pointer
  pub holds : P own

abbrev pub IsRipeIn : Object → List OwnBlock → Type 0
IsRipeIn object list = IsIn (λ own. bit_at own.ripe (number_of object.pointer object.class) ≡ 1) object list

abbrev pub IsWaitingIn : Object → List OwnBlock → Type 0
IsWaitingIn object list = IsIn (λ own. bit_at own.waiting (number_of object.pointer object.class) ≡ 1) object list

-- the block is the object's
pub record IsBlockOf (object : Object) (own : OwnBlock) : Type 0 where
  pub region_is : own.region ≡ region_of object.pointer
  pub block_is : own.block ≡ block_of object.pointer

IsIn-weaker : (P Q : OwnBlock → Type 0) (object : Object) (list : List OwnBlock) → ((own : OwnBlock) → P own → Q own)
    → IsIn P object list → IsIn Q object list
IsIn-weaker P Q object list weaker is =
    record { own = is.own; has = is.has; region_is = is.region_is; block_is = is.block_is; holds = weaker is.own is.holds }

IsIn-either : (P Q : OwnBlock → Type 0) (object : Object) (list : List OwnBlock) → IsIn (λ own. P own ⊎ Q own) object list
    → IsIn P object list ⊎ IsIn Q object list
IsIn-either P Q object list is =
    elim (is.holds) [
      | inl holds ↦ inl (record { own = is.own; has = is.has; region_is = is.region_is; block_is = is.block_is; holds = holds })
      | inr holds ↦ inr (record { own = is.own; has = is.has; region_is = is.region_is; block_is = is.block_is; holds = holds })
    ]

-- each block is changed, and stays where it is
IsIn-map : (P : OwnBlock → Type 0) (object : Object) (f : OwnBlock → OwnBlock) (list : List OwnBlock)
    → ((own : OwnBlock) → ((f own).region ≡ own.region) × ((f own).block ≡ own.block))
    → IsIn P object (map f list) → IsIn (λ own. P (f own)) object list
IsIn-map P object f list same is =
    let within : is.has.0 < length list = omega (arith, is.has.1, length-map list f) in
    let old = get_or list is.has.0 no_block in
    let new : f old ≡ is.own = sym (get_or-map f list is.has.0 no_block is.own within) ∙ is.has.2 in
    record {
      own = old;
      has = (is.has.0, within, get_or_default list is.has.0 old no_block within);
      region_is = sym (same old).0 ∙ (ap (λ (o : OwnBlock). o.region) new ∙ is.region_is);
      block_is = sym (same old).1 ∙ (ap (λ (o : OwnBlock). o.block) new ∙ is.block_is);
      holds = subst P (sym new) is.holds;
    }

-- one of the blocks is replaced
IsIn-set : (P : OwnBlock → Type 0) (object : Object) (list : List OwnBlock) (i : ℕ) (new : OwnBlock) → i < length list
    → IsIn P object (slice_set list i new) → IsIn P object list ⊎ (IsBlockOf object new × P new)
IsIn-set P object list i new below is =
    elim (cases_eq is.has.0 i) [
      | inl at ↦
          let here : new ≡ is.own = sym (get_or-set_same list i new is.own below)
          ∙ subst (λ k. get_or (slice_set list i new) k is.own ≡ is.own) at is.has.2 in
          inr (
            record {
              region_is = ap (λ (o : OwnBlock). o.region) here ∙ is.region_is;
              block_is = ap (λ (o : OwnBlock). o.block) here ∙ is.block_is;
            },
            subst P (sym here) is.holds,
          )
      | inr apart ↦
          inl
          (record {
            own = is.own;
            has = (
              is.has.0,
              omega (arith, is.has.1, length-set list i new),
              sym (get_or-set_other list i is.has.0 new is.own apart) ∙ is.has.2,
            );
            region_is = is.region_is;
            block_is = is.block_is;
            holds = is.holds;
          })
    ]

-- one more block is gained
pub IsIn-append : (P : OwnBlock → Type 0) (object : Object) (list : List OwnBlock) (new : OwnBlock)
    → IsIn P object (list ++ new ∷ []) → IsIn P object list ⊎ (IsBlockOf object new × P new)
IsIn-append P object list new is =
    elim (Contains-append_cases list (new ∷ []) is.own is.has) [
      | inl old ↦
          inl (record { own = is.own; has = old; region_is = is.region_is; block_is = is.block_is; holds = is.holds })
      | inr last ↦
          let first : last.0 ≡ 0 = omega (arith, last.1) in
          let here : new ≡ is.own = subst (λ k. get_or (new ∷ []) k is.own ≡ is.own) first last.2 in
          inr (
            record {
              region_is = ap (λ (o : OwnBlock). o.region) here ∙ is.region_is;
              block_is = ap (λ (o : OwnBlock). o.block) here ∙ is.block_is;
            },
            subst P (sym here) is.holds,
          )
    ]

-- ---- all that waits is ripe

pub ripe-ripened : (object : Object) (list : List OwnBlock) → IsRipeIn object (map ripened_block list)
    → IsRipeIn object list ⊎ IsWaitingIn object list
ripe-ripened object list is =
    let j = number_of object.pointer object.class in
    IsIn-either (λ own. bit_at own.ripe j ≡ 1) (λ own. bit_at own.waiting j ≡ 1) object list
    (IsIn-weaker (λ own. bit_at (ripened_block own).ripe j ≡ 1) (λ own. (bit_at own.ripe j ≡ 1) ⊎ (bit_at own.waiting j ≡ 1))
    object list (λ own both. either own.ripe own.waiting j both)
    (IsIn-map (λ own. bit_at own.ripe j ≡ 1) object ripened_block list (λ own. (refl, refl)) is))

pub waiting-ripened : {A : Type 0} (object : Object) (list : List OwnBlock) → IsWaitingIn object (map ripened_block list) → A
waiting-ripened object list is =
    let j = number_of object.pointer object.class in
    no_bit j (IsIn-map (λ own. bit_at own.waiting j ≡ 1) object ripened_block list (λ own. (refl, refl)) is).holds

-- ---- the next reserve is the reserve

pub ripe-cleared : (object : Object) (class : ℕ) (of_class : ClassStock) (list : List OwnBlock)
    → IsRipeIn object (map (cleared_block class of_class) list) → IsRipeIn object list
ripe-cleared object class of_class list is =
    let j = number_of object.pointer object.class in
    IsIn-weaker (λ own. bit_at (cleared_block class of_class own).ripe j ≡ 1) (λ own. bit_at own.ripe j ≡ 1) object list
    (λ own ripe. bit_at-without own.ripe (reserve_bit class of_class own) j ripe)
    (IsIn-map (λ own. bit_at own.ripe j ≡ 1) object (cleared_block class of_class) list (λ own. (refl, refl)) is)

pub waiting-cleared : (object : Object) (class : ℕ) (of_class : ClassStock) (list : List OwnBlock)
    → IsWaitingIn object (map (cleared_block class of_class) list) → IsWaitingIn object list
waiting-cleared object class of_class list is =
    IsIn-map (λ own. bit_at own.waiting (number_of object.pointer object.class) ≡ 1) object (cleared_block class of_class) list
    (λ own. (refl, refl)) is

-- ---- a block is scanned

pub ripe-scanned : (object : Object) (class : ℕ) (of_class : ClassStock) (list : List OwnBlock) (i found : ℕ) → i < length list
    → IsRipeIn object (slice_set list i (scanned_block class of_class (get_or list i no_block) found)) → IsRipeIn object list
ripe-scanned object class of_class list i found below is =
    let j = number_of object.pointer object.class in
    let old = get_or list i no_block in
    elim (IsIn-set (λ own. bit_at own.ripe j ≡ 1) object list i (scanned_block class of_class old found) below is) [
      | inl before ↦ before
      | inr new ↦
          record {
            own = old;
            has = (i, below, get_or_default list i old no_block below);
            region_is = new.0.region_is;
            block_is = new.0.block_is;
            holds = new.1;
          }
    ]
