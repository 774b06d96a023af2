-- What holds of the program's stock stays so.
use Rattle.std.proofs.Common.{◌≡◌, ℕ, ◌*◌, ◌<◌, ◌≤◌, true, map, get_or, refl, sym, ap, subst, ◌∙◌, arith, replicate}
use Rattle.std.specs.Prelude.{slice_index_or, slice_set}
use Rattle.std.specs.Vec.{with_item}
use Rattle.std.proofs.Math.Seq.{map-set_same}
use Rattle.std.proofs.lemmas.List.{get_or-map, get_or-replicate, length-map, map-set}
use Rattle.machine.specs.declared.choosing.Took.{Took}
use Rattle.machine.specs.Choosing.{IsTaken, begins, next, taken, turn}
use Rattle.machine.specs.ObjectNames.{names_object}
use Rattle.machine.specs.Places.{IsInPool}
use Rattle.machine.specs.Stock as machine
use Rattle.machine.specs.Stock.{Stock, first_stock, no_stock, with_reserve}
use Rattle.machine.specs.Turn.{Turn}
use Rattle.object_alloc.proofs.StockLemmas.{StaysHeld, begins-held, begins-taken, first-held, has_unit, next_inside, turn-held, turn-taken}
use Rattle.object_alloc.proofs.TakenLemmas.{taken-held}
use Rattle.object_alloc.specs.Choosers.{IsFit, rooms_of, stock_of, turn_of}
use Rattle.object_alloc.specs.Classes.{HasUnit, class_of, room_of}
use Rattle.object_alloc.specs.Held.{IsHeld, IsKept, IsRoomy}
use Rattle.object_alloc.specs.declared.blocks.ClassStock.{ClassStock}
use Rattle.object_alloc.specs.declared.choosers.Chooser.{Chooser}
use Rattle.object_form.specs.declared.classes.TheConstants.{CLASSES}
use Rattle.region_view.specs.Placed.{LeavesNoneBare, Viewed}
use Rattle.region_view.specs.Sizes.{IsWithinLimits, Sizes}
use Rattle.verb_words.specs.declared.verbs.Answer.{Answer}
use Rattle.verb_words.specs.declared.verbs.Verb.{Verb}
use Rattle.verb_words.specs.Verb.{place_of}

-- the rooms of a chooser that has its shape and its rooms from another
roomy-from : (before after : Chooser) → IsRoomy before → rooms_of after ≡ rooms_of before → after.shape ≡ before.shape → IsRoomy after
roomy-from before after roomy rooms shape = λ class below.
    ap (λ l. get_or l class 0) rooms ∙ roomy class below ∙ ap (λ (s : Sizes). s.regions * s.blocks) (sym shape)

kept-from : (before after : Chooser) (class : ℕ) (stock : Stock) → stock_of after ≡ stock → StaysHeld before.shape class stock → rooms_of after ≡ rooms_of before → IsRoomy before → IsKept after
kept-from before after class stock is stays rooms roomy = record {
  held = subst IsHeld (sym is) stays.0;
  roomy = roomy-from before after roomy rooms (ap (λ (s : Stock). s.shape) is ∙ stays.1);
}

pub after-kept : (before after : Chooser) (told : Took) (answer : Answer) → IsKept before → turn_of after told ≡ turn (stock_of before) answer → rooms_of after ≡ rooms_of before → IsKept after
after-kept before after told answer kept is rooms =
    kept-from before after before.class (turn (stock_of before) answer).state (ap (λ (t : Turn Stock Took). t.state) is) (turn-held (stock_of before) answer kept.held) rooms kept.roomy

pub begun-kept : (before after : Chooser) (told : Took) (view : Viewed) (class : ℕ) → IsKept before → view.shape ≡ before.shape → LeavesNoneBare view.shape view.mask → class < CLASSES
    → turn_of after told ≡ begins (stock_of before) view.mask class → rooms_of after ≡ rooms_of before → IsKept after
begun-kept before after told view class kept same full below is rooms =
    kept-from before after class (begins (stock_of before) view.mask class).state (ap (λ (t : Turn Stock Took). t.state) is) (begins-held (stock_of before) view class kept.held same full below) rooms kept.roomy

pub after-same : (before after : Chooser) (now : Stock) (told : Took) (answer : Answer) → IsKept before → stock_of before ≡ now → turn_of after told ≡ turn (stock_of before) answer
    → (after.shape ≡ now.shape) × (after.class ≡ now.class)
after-same before after now told answer kept same is =
    let stays = turn-held (stock_of before) answer kept.held in
    let state = ap (λ (t : Turn Stock Took). t.state) is in
    (ap (λ (s : Stock). s.shape) state ∙ stays.1 ∙ ap (λ (s : Stock). s.shape) same, ap (λ (s : Stock). s.class) state ∙ stays.2 ∙ ap (λ (s : Stock). s.class) same)

pub begun-same : (before after : Chooser) (now : Stock) (told : Took) (view : Viewed) (class : ℕ) → IsKept before → view.shape ≡ before.shape → LeavesNoneBare view.shape view.mask → class < CLASSES → stock_of before ≡ now
    → turn_of after told ≡ begins (stock_of before) view.mask class → (after.shape ≡ now.shape) × (after.class ≡ class)
begun-same before after now told view class kept shape full below same is =
    let stays = begins-held (stock_of before) view class kept.held shape full below in
    let state = ap (λ (t : Turn Stock Took). t.state) is in
    (ap (λ (s : Stock). s.shape) state ∙ stays.1 ∙ ap (λ (s : Stock). s.shape) same, ap (λ (s : Stock). s.class) state ∙ stays.2)

pub after-taken : (before after : Chooser) (now : Stock) (told : Took) (answer : Answer) → IsKept before → stock_of before ≡ now → turn_of after told ≡ turn (stock_of before) answer → IsTaken now.shape now.class told
after-taken before after now told answer kept same is =
    subst (λ (s : Stock). IsTaken s.shape s.class told) same
    (subst (IsTaken before.shape before.class) (sym (ap (λ (t : Turn Stock Took). t.told) is)) (turn-taken (stock_of before) answer kept.held))

pub begun-taken : (before after : Chooser) (told : Took) (view : Viewed) (class : ℕ) → IsKept before → view.shape ≡ before.shape → LeavesNoneBare view.shape view.mask → class < CLASSES
    → turn_of after told ≡ begins (stock_of before) view.mask class → IsTaken view.shape class told
begun-taken before after told view class kept same full below is =
    subst (IsTaken view.shape class) (sym (ap (λ (t : Turn Stock Took). t.told) is)) (begins-taken (stock_of before) view class kept.held same full below)

pub due-inside : (chooser : Chooser) (now : Stock) (verb : Verb) → IsKept chooser → stock_of chooser ≡ now → verb ≡ next (stock_of chooser) → IsInPool now.shape (place_of verb)
due-inside chooser now verb kept same is =
    subst (λ (s : Stock). IsInPool s.shape (place_of verb)) same (subst (λ v. IsInPool chooser.shape (place_of v)) (sym is) (next_inside (stock_of chooser) kept.held))

-- with the stock of another class
pub other_fit : (chooser : Chooser) (class : ℕ) → IsKept chooser → class < CLASSES → IsFit (record (stock_of chooser) { class = class })
other_fit chooser class kept below =
    let held = kept.held in
    record { limits = held.fit.limits; whole = held.fit.whole; class = below; reserve = has_unit chooser.shape class _ (held.state.classes class below) }

-- the first stock
pub first-kept : (chooser : Chooser) → stock_of chooser ≡ first_stock chooser.client chooser.shape → rooms_of chooser ≡ replicate CLASSES (chooser.shape.regions * chooser.shape.blocks) → IsWithinLimits chooser.shape
    → (1 ≤ chooser.client) × (chooser.client ≤ chooser.shape.clients) → IsKept chooser
first-kept chooser is rooms limits number = record {
  held = subst IsHeld (sym is) (first-held chooser.client chooser.shape limits number);
  roomy = λ class below. ap (λ l. get_or l class 0) rooms ∙ get_or-replicate CLASSES class (chooser.shape.regions * chooser.shape.blocks) 0 below;
}

-- ---- the next reserve of a class

stock-at : (chooser : Chooser) (class : ℕ) (stock : ClassStock) → IsKept chooser → class < CLASSES → stock ≡ get_or chooser.classes.items class stock → class_of stock ≡ slice_index_or (stock_of chooser).classes class no_stock
stock-at chooser class stock kept below is =
    ap class_of is ∙ sym (get_or-map class_of chooser.classes.items class stock no_stock (let whole = kept.held.fit.whole in omega (arith, length-map chooser.classes.items class_of)))

pub unit-at : (chooser : Chooser) (class : ℕ) (stock : ClassStock) → IsKept chooser → class < CLASSES → stock ≡ get_or chooser.classes.items class stock → HasUnit stock.reserve
unit-at chooser class stock kept below is =
    subst (λ (s : machine.ClassStock). HasUnit s.reserve) (sym (stock-at chooser class stock kept below is)) (has_unit chooser.shape class _ (kept.held.state.classes class below))

pub taken-state : (chooser : Chooser) (class next : ℕ) (stock new : ClassStock) → IsKept chooser → class < CLASSES → stock ≡ get_or chooser.classes.items class stock → class_of new ≡ with_reserve class (class_of stock) next
    → stock_of (record chooser { classes = with_item chooser.classes class new }) ≡ taken (stock_of chooser) class next
taken-state chooser class next stock new kept below is made =
    ap (λ classes. record (stock_of chooser) { classes = classes })
    (map-set class_of chooser.classes.items class new
    ∙ ap (slice_set (map class_of chooser.classes.items) class) (made ∙ ap (λ s. with_reserve class s next) (stock-at chooser class stock kept below is)))

pub taken-kept : (chooser : Chooser) (class next : ℕ) (stock new : ClassStock) → IsKept chooser → class < CLASSES → names_object chooser.shape class next ≡ true → stock ≡ get_or chooser.classes.items class stock
    → class_of new ≡ with_reserve class (class_of stock) next → room_of new ≡ room_of stock → IsKept (record chooser { classes = with_item chooser.classes class new })
taken-kept chooser class next stock new kept below named is made room = record {
  held = subst IsHeld (sym (taken-state chooser class next stock new kept below is made)) (taken-held (stock_of chooser) class next kept.held below named);
  roomy = roomy-from chooser (record chooser { classes = with_item chooser.classes class new }) kept.roomy (map-set_same room_of chooser.classes.items class new stock (room ∙ ap room_of is)) refl;
}
