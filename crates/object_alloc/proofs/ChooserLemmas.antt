-- What a change of one class changes of a chooser.
use Rattle.std.proofs.Common.{◌≡◌, ℕ, ◌<◌, length, map, get_or, sym, ap, ◌∙◌, subst, arith, length-set}
use Rattle.std.specs.Prelude.{slice_set}
use Rattle.std.specs.Vec.{with_item}
use Rattle.std.proofs.lemmas.List.{get_or-map, get_or-set_same, length-map, map-set}
use Rattle.std.proofs.Math.Seq.{map-set_same}
use Rattle.machine.specs.Stock as machine
use Rattle.machine.specs.Stock.{Stock, class_stock, no_stock, with_class_stock}
use Rattle.object_alloc.specs.Choosers.{IsFit, rooms_of, stock_of}
use Rattle.object_alloc.specs.Classes.{HasUnit, class_of, room_of}
use Rattle.object_alloc.specs.declared.blocks.ClassStock.{ClassStock}
use Rattle.object_alloc.specs.declared.choosers.Chooser.{Chooser}

-- a chooser with another stock of the class that is chosen for, at another position
abbrev pub with_class : Chooser → ClassStock → ℕ → Chooser
with_class c stock position = record c { classes = with_item c.classes c.class stock; position = position }

class_within : (c : Chooser) → IsFit (stock_of c) → c.class < length c.classes.items
class_within c fit = let whole = fit.whole in let below = fit.class in omega (arith, length-map c.classes.items class_of)

-- the class that is chosen for, as the machine has it
pub here-is : (c : Chooser) (stock : ClassStock) → IsFit (stock_of c) → stock ≡ get_or c.classes.items c.class stock → class_of stock ≡ class_stock (stock_of c)
here-is c stock fit is = ap class_of is ∙ sym (get_or-map class_of c.classes.items c.class stock no_stock (class_within c fit))

pub with_class-state : (c : Chooser) (stock : ClassStock) (position : ℕ) (of_class : machine.ClassStock) → class_of stock ≡ of_class
    → stock_of (with_class c stock position) ≡ record (with_class_stock (stock_of c) of_class) { position = position }
with_class-state c stock position of_class is =
    ap (λ classes. record (stock_of c) { classes = classes; position = position })
    (map-set class_of c.classes.items c.class stock ∙ ap (slice_set (map class_of c.classes.items) c.class) is)

pub with_class-fit : (c : Chooser) (stock : ClassStock) (position : ℕ) → IsFit (stock_of c) → HasUnit stock.reserve → IsFit (stock_of (with_class c stock position))
with_class-fit c stock position fit has =
    let below = class_within c fit in
    let same : get_or (map class_of (slice_set c.classes.items c.class stock)) c.class no_stock ≡ class_of stock =
    ap (λ l. get_or l c.class no_stock) (map-set class_of c.classes.items c.class stock)
    ∙ get_or-set_same (map class_of c.classes.items) c.class (class_of stock) no_stock (omega (arith, length-map c.classes.items class_of)) in
    record {
      limits = fit.limits;
      whole = length-map (slice_set c.classes.items c.class stock) class_of ∙ length-set c.classes.items c.class stock ∙ sym (length-map c.classes.items class_of) ∙ fit.whole;
      class = fit.class;
      reserve = subst (λ (s : machine.ClassStock). HasUnit s.reserve) (sym same) has;
    }

-- the reserve is the one that the class has
pub here-reserve : (c : Chooser) (stock : ClassStock) → IsFit (stock_of c) → stock ≡ get_or c.classes.items c.class stock → HasUnit stock.reserve
here-reserve c stock fit is = subst (λ (s : machine.ClassStock). HasUnit s.reserve) (sym (here-is c stock fit is)) fit.reserve

pub with_class-rooms : (c : Chooser) (stock new : ClassStock) (position : ℕ) → stock ≡ get_or c.classes.items c.class stock → room_of new ≡ room_of stock → IsFit (stock_of c)
    → rooms_of (with_class c new position) ≡ rooms_of c
with_class-rooms c stock new position is same fit =
    map-set_same room_of c.classes.items c.class new stock (same ∙ ap room_of is)
