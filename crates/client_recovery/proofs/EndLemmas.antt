-- The ends of the classes, one after the other.
use Rattle.std.proofs.Common.{◌≡◌, ◌≢◌, ℕ, ◌+◌, ◌++◌, ◌/◌, ◌%◌, ◌<◌, ◌≤◌, ◌==◌, true, false, List, [], ◌∷◌, length, drop, get_or, Option, Some, None, refl, sym, ap, ◌∙◌, arith}
use Rattle.std.proofs.lemmas.Bool.{eq-eqb, ne_eqb}
use Rattle.std.proofs.lemmas.List.{drop_all, drop_more}
use Rattle.machine.specs.LinkWalk.{IsLast, IsReserve}
use Rattle.machine.specs.ObjectNames.{IsObject, Object}
use Rattle.machine.specs.Recovery.{first_reserve, linked_by}
use Rattle.machine.specs.RecoveryStage.{AreEnds, ClassEnd}
use Rattle.machine.proofs.RecoveryKept.{AreEnds-drop, AreEnds-push, first_reserve-is}
use Rattle.object_form.specs.declared.classes.TheConstants.{CLASSES}
use Rattle.region_view.specs.Sizes.{Sizes}

-- a class without a reserve is passed over
pub reserve_none : (ends : List ClassEnd) (class : ℕ) (end : ClassEnd) → class < length ends → end ≡ get_or ends class end → end.reserve ≡ None
    → first_reserve class (drop class ends) ≡ first_reserve (class + 1) (drop (class + 1) ends)
reserve_none ends class end within is none =
    let split : drop class ends ≡ end ∷ drop (class + 1) ends = drop_more ends class end within ∙ ap (λ e. e ∷ drop (class + 1) ends) (sym is) in
    ap (first_reserve class) split ∙ rw none refl

pub reserve_some : (ends : List ClassEnd) (class pointer : ℕ) (end : ClassEnd) → class < length ends → end ≡ get_or ends class end → end.reserve ≡ Some pointer
    → first_reserve class (drop class ends) ≡ Some (record { pointer = pointer; class = class })
reserve_some ends class pointer end within is some =
    let split : drop class ends ≡ end ∷ drop (class + 1) ends = drop_more ends class end within ∙ ap (λ e. e ∷ drop (class + 1) ends) (sym is) in
    ap (first_reserve class) split ∙ rw some refl

pub reserve_past : (ends : List ClassEnd) (class : ℕ) → length ends ≤ class → first_reserve class (drop class ends) ≡ None
reserve_past ends class past = ap (first_reserve class) (drop_all class ends past)

-- a class of which the call linked no object is passed over
pub last_none : (ends : List ClassEnd) (number class : ℕ) (end : ClassEnd) → class < length ends → end ≡ get_or ends class end → end.last ≡ None
    → linked_by number class (drop class ends) ≡ linked_by number (class + 1) (drop (class + 1) ends)
last_none ends number class end within is none =
    let split : drop class ends ≡ end ∷ drop (class + 1) ends = drop_more ends class end within ∙ ap (λ e. e ∷ drop (class + 1) ends) (sym is) in
    ap (linked_by number class) split ∙ rw none refl

pub last_other : (ends : List ClassEnd) (number class pointer call : ℕ) (end : ClassEnd) → class < length ends → end ≡ get_or ends class end → end.last ≡ Some (pointer, call) → call ≢ number
    → linked_by number class (drop class ends) ≡ linked_by number (class + 1) (drop (class + 1) ends)
last_other ends number class pointer call end within is some not =
    let other : (call == number) ≡ false = ne_eqb call number not in
    let split : drop class ends ≡ end ∷ drop (class + 1) ends = drop_more ends class end within ∙ ap (λ e. e ∷ drop (class + 1) ends) (sym is) in
    ap (linked_by number class) split ∙ rw (some, other) refl

pub last_some : (ends : List ClassEnd) (number class pointer call : ℕ) (end : ClassEnd) → class < length ends → end ≡ get_or ends class end → end.last ≡ Some (pointer, call) → call ≡ number
    → linked_by number class (drop class ends) ≡ Some (record { pointer = pointer; class = class })
last_some ends number class pointer call end within is some same =
    let own : (call == number) ≡ true = eq-eqb call number same in
    let split : drop class ends ≡ end ∷ drop (class + 1) ends = drop_more ends class end within ∙ ap (λ e. e ∷ drop (class + 1) ends) (sym is) in
    ap (linked_by number class) split ∙ rw (some, own) refl

pub last_past : (ends : List ClassEnd) (number class : ℕ) → length ends ≤ class → linked_by number class (drop class ends) ≡ None
last_past ends number class past = ap (linked_by number class) (drop_all class ends past)

-- a reserve that is found is an object of the pool
pub reserve_is : (sizes : Sizes) (class : ℕ) (ends : List ClassEnd) (object : Object) → AreEnds sizes 0 ends → first_reserve class (drop class ends) ≡ Some object → IsObject sizes object
reserve_is sizes class ends object are gives = first_reserve-is sizes class (drop class ends) object (AreEnds-drop sizes 0 class class ends (omega arith) are) gives

pub reserve-class : (sizes : Sizes) (class : ℕ) (ends slice : List ClassEnd) (found : Option Object) (object given : Object) → AreEnds sizes 0 ends → slice ≡ ends → found ≡ first_reserve class (drop class slice) → found ≡ Some object
    → given ≡ object → given.class < CLASSES
reserve-class sizes class ends slice found object given are same is some here =
    let gives : first_reserve class (drop class ends) ≡ Some object = ap (λ l. first_reserve class (drop class l)) (sym same) ∙ sym is ∙ some in
    let of_class = ap (λ (o : Object). o.class) here in
    omega (arith, (reserve_is sizes class ends object are gives).class)

-- with the end of a further class
pub ends_push : (sizes : Sizes) (ends : List ClassEnd) (end : ClassEnd) → AreEnds sizes 0 ends → IsLast sizes (length ends) end.last → IsReserve sizes (length ends) end.reserve → AreEnds sizes 0 (ends ++ end ∷ [])
ends_push sizes ends end are last reserve = AreEnds-push sizes 0 (length ends) ends end (omega arith) are last reserve

-- the number of a call that is under way
pub half_more : (found : ℕ) → found % 2 ≢ 0 → found / 2 + 1 ≡ (found + 1) / 2
half_more found odd = omega arith
