-- How the map after some calls, and whether their replies are the map's, go on with more calls.
use Rattle.std.proofs.Common.{◌≡◌, ℕ, ◌+◌, ◌<◌, true, ◌&&◌, List, [], ◌∷◌, ◌++◌, length, take, get_or, refl, sym, ◌∙◌, ap, zero, suc, add-one, arith, Option, Some, None}
use Rattle.std.proofs.Common.{bytes_eq}
use Rattle.std.specs.Option.{option_map_or}
use Rattle.std.proofs.lemmas.List.{take-append-drop}
use Rattle.std.proofs.lemmas.Slice.Eq.{bytes_eq-Decides}
use Rattle.std.proofs.Math.Bool.{and_assoc}
use Rattle.std.specs.Cmp.{first_so}
use Rattle.map_model.specs.declared.calls.Call.{Call}
use Rattle.map_model.specs.declared.calls.Call.TheVariants.{Get, Put, Delete}
use Rattle.map_model.specs.declared.calls.Reply.TheVariants.{Value, Absent}
use Rattle.map_model.specs.declared.entries.Entry.{Entry}
use Rattle.map_model.specs.Map.{Map, after, is_legal_from, map_after, may_reply, reply_of}

-- the map after some entries and then others
pub map_after-append : (map : Map) (es fs : List Entry) → map_after map (es ++ fs) ≡ map_after (map_after map es) fs
map_after-append map [] fs = refl
map_after-append map (e ∷ es) fs = map_after-append (after map e.call e.reply) es fs

map_after-take_suc : (map : Map) (es : List Entry) (i : ℕ) (e : Entry) → i < length es → e ≡ get_or es i e → map_after map (take (suc i) es) ≡ after (map_after map (take i es)) e.call e.reply
map_after-take_suc map [] i e within at = absurd (omega arith)
map_after-take_suc map (x ∷ es) zero e within at = ap (λ (y : Entry). after map y.call y.reply) (sym at)
map_after-take_suc map (x ∷ es) (suc i) e within at = map_after-take_suc (after map x.call x.reply) es i e (omega arith) at

-- the map after one more entry
pub map_after-take : (map : Map) (es : List Entry) (i : ℕ) (e : Entry) → i < length es → e ≡ get_or es i e → map_after map (take (i + 1) es) ≡ after (map_after map (take i es)) e.call e.reply
map_after-take map es i e within at = rw add-one (map_after-take_suc map es i e within at)

-- some entries and then others are legal where both are, the others from the map that the first leave
pub is_legal_from-append : (map : Map) (es fs : List Entry) → is_legal_from map (es ++ fs) ≡ (is_legal_from map es && is_legal_from (map_after map es) fs)
is_legal_from-append map [] fs = refl
is_legal_from-append map (e ∷ es) fs =
    ap (λ rest. may_reply map e.call e.reply && rest) (is_legal_from-append (after map e.call e.reply) es fs)
    ∙ sym (and_assoc (may_reply map e.call e.reply) (is_legal_from (after map e.call e.reply) es) (is_legal_from (map_after (after map e.call e.reply) es) fs))

-- the first of legal entries are legal
pub is_legal_from-left : (map : Map) (es fs : List Entry) → is_legal_from map (es ++ fs) ≡ true → is_legal_from map es ≡ true
is_legal_from-left map es fs legal = first_so (is_legal_from map es) (is_legal_from (map_after map es) fs) (sym (is_legal_from-append map es fs) ∙ legal)

pub is_legal_from-take : (map : Map) (es : List Entry) (i : ℕ) → is_legal_from map es ≡ true → is_legal_from map (take i es) ≡ true
is_legal_from-take map es i legal = is_legal_from-left map (take i es) _ (ap (is_legal_from map) (take-append-drop i es) ∙ legal)

-- legal entries stay so with one more, where its reply is the map's
pub is_legal_from-push : (map : Map) (es : List Entry) (e : Entry) → is_legal_from map es ≡ true → may_reply (map_after map es) e.call e.reply ≡ true → is_legal_from map (es ++ e ∷ []) ≡ true
is_legal_from-push map es e legal fits = rw (is_legal_from-append map es (e ∷ []), legal, fits)

-- bytes are equal to themselves
pub bytes_eq-same : (bytes : List ℕ) → bytes_eq bytes bytes ≡ true
bytes_eq-same bytes = (bytes_eq-Decides bytes bytes).1 refl

found : (o : Option (List ℕ)) (key : List ℕ) → may_reply (λ other. o) (Get key) (option_map_or Value o Absent) ≡ true
found None key = refl
found (Some there) key = bytes_eq-same there

-- the reply of a map that never wants room is one that it may give
pub may_reply-reply_of : (map : Map) (call : Call) → may_reply map call (reply_of map call) ≡ true
may_reply-reply_of map (Get key) = found (map key) key
may_reply-reply_of map (Put key value) = refl
may_reply-reply_of map (Delete key) = refl
