-- The order of the calls is that of the world's ledger.
use Rattle.std.proofs.Common.{◌≡◌, ℕ, ◌+◌, ◌<◌, Bool, true, false, if◌then◌else◌, List, [], ◌∷◌, ◌++◌, length, get_or, take, map, refl, sym, ap, subst, ◌∙◌}
use Rattle.std.proofs.lemmas.List.{take_more}
use Rattle.std.specs.Borrow.{Bor}
use Rattle.std.specs.List.{AllZip}
use Rattle.machine_world.specs.Ledger as ledger
use Rattle.machine_world.specs.Ledger.{entry_of, history_of, is_before}
use Rattle.machine_world.specs.World.{Entered, World}
use Rattle.map_model.specs.declared.entries.Entry.{Entry}
use Rattle.verb_history.proofs.PointLemmas.{lent, map-twice}
use Rattle.verb_history.specs.Points.{IsMarked, entered_of, in_order, inserted}
use Rattle.verb_history.specs.declared.points.Placed.{Placed}

inserted-entered : (one : Placed) (others : List Placed) → map entered_of (inserted one others) ≡ ledger.inserted (entered_of one) (map entered_of others)
inserted-entered one [] = refl
inserted-entered one (other ∷ others) = by (is_before one.at other.at) (inserted-entered one others)
  where
    by : (t : Bool) → map entered_of (inserted one others) ≡ ledger.inserted (entered_of one) (map entered_of others)
        → map entered_of (if t then one ∷ other ∷ others else other ∷ inserted one others)
        ≡ (if t then entered_of one ∷ entered_of other ∷ map entered_of others else entered_of other ∷ ledger.inserted (entered_of one) (map entered_of others))
    by true rest = refl
    by false rest = ap (λ entered. entered_of other ∷ entered) rest

pub in_order-entered : (placed : List Placed) → map entered_of (in_order placed) ≡ ledger.in_order (map entered_of placed)
in_order-entered [] = refl
in_order-entered (one ∷ others) = inserted-entered one (in_order others) ∙ ap (ledger.inserted (entered_of one)) (in_order-entered others)

-- the borrowed calls in their order are the ledger's
pub order-entered : (placed : List Placed) (order : List (Bor Placed)) → map lent order ≡ in_order placed → map (λ one. entered_of one.now) order ≡ ledger.in_order (map entered_of placed)
order-entered placed order ordered = sym (map-twice entered_of lent order) ∙ ap (map entered_of) ordered ∙ in_order-entered placed

map-entered : (f : Entered → Entry) (placed : List Placed) → map (λ one. f (entered_of one)) placed ≡ map f (map entered_of placed)
map-entered f [] = refl
map-entered f (one ∷ others) = ap (λ rest. f (entered_of one) ∷ rest) (map-entered f others)

pub history-listed : (world : World) (placed : List Placed) → map entered_of placed ≡ world.ledger.entries → map (λ one. entry_of world (entered_of one)) (in_order placed) ≡ history_of world
unfolding history_of
history-listed world placed same =
    map-entered (entry_of world) (in_order placed)
    ∙ ap (map (entry_of world)) (in_order-entered placed ∙ ap ledger.in_order same)

-- ---- marks

-- the copy of a call's entry, marked so
pub marked-copy : (answers : ℕ → ℕ → Bool → Type 0) (one : Placed) (copy : Entry) (mark : Bool) → copy ≡ one.entry → answers copy.client copy.number mark
    → IsMarked answers (entered_of one) (record copy { returned = mark })
marked-copy answers one copy mark same holds =
    (ap (λ (e : Entry). record { client = e.client; number = e.number; call = e.call; reply = e.reply; returned = mark }) same, subst (λ (e : Entry). answers e.client e.number mark) same holds)

zip-map : {X Y Z : Type 0} (R : Y → Z → Type 0) (f : X → Y) (xs : List X) (zs : List Z) → AllZip (λ x z. R (f x) z) xs zs → AllZip R (map f xs) zs
zip-map R f [] [] all = all
zip-map R f [] (z ∷ zs) all = all
zip-map R f (x ∷ xs) [] all = all
zip-map R f (x ∷ xs) (z ∷ zs) all = (all.0, zip-map R f xs zs all.1)

zip-push : {X Z : Type 0} (R : X → Z → Type 0) (xs : List X) (zs : List Z) (x : X) (z : Z) → AllZip R xs zs → R x z → AllZip R (xs ++ x ∷ []) (zs ++ z ∷ [])
zip-push R [] [] x z all one = (one, tt)
zip-push R [] (w ∷ zs) x z all one = absurd all
zip-push R (y ∷ xs) [] x z all one = absurd all
zip-push R (y ∷ xs) (w ∷ zs) x z all one = (all.0, zip-push R xs zs x z all.1 one)

pub zip-more : {X Z : Type 0} (R : X → Z → Type 0) (xs : List X) (zs : List Z) (i : ℕ) (x : X) (z : Z) → i < length xs → x ≡ get_or xs i x → AllZip R (take i xs) zs → R x z → AllZip R (take (i + 1) xs) (zs ++ z ∷ [])
zip-more R xs zs i x z within is all one =
    let more : take (i + 1) xs ≡ take i xs ++ x ∷ [] = take_more xs i x within ∙ ap (λ y. take i xs ++ y ∷ []) (sym is) in
    subst (λ ys. AllZip R ys (zs ++ z ∷ [])) (sym more) (zip-push R (take i xs) zs x z all one)

-- what holds of the borrowed calls in their order holds of the ledger's
pub history-marked : (R : Entered → Entry → Type 0) (placed : List Placed) (order slice : List (Bor Placed)) (list : List Entry) → map lent order ≡ in_order placed → slice ≡ order
    → AllZip (λ one entry. R (entered_of one.now) entry) slice list → AllZip R (ledger.in_order (map entered_of placed)) list
history-marked R placed order slice list ordered same all =
    subst (λ entered. AllZip R entered list) (ap (map (λ one. entered_of one.now)) same ∙ order-entered placed order ordered)
    (zip-map R (λ one. entered_of one.now) slice list all)
