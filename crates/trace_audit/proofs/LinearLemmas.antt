-- A list without fault and without a missing call is a linearization, and a linearization has neither.
use Rattle.std.proofs.Common.{◌≡◌, ℕ, zero, suc, ◌+◌, ◌<◌, ◌⊎◌, inl, inr, Bool, true, false, IsTrue, List, [], ◌∷◌, length, Some, take, bytes_eq, refl, sym, ◌∙◌, ap, ap₂, subst, arith}
use Rattle.std.specs.Prelude.{slice_get, Contains}
use Rattle.std.specs.Cmp.{first_so, second_so}
use Rattle.std.proofs.lemmas.Bool.{cases_lt, cases_eq}
use Rattle.std.proofs.lemmas.Option.{slice_get_within, slice_get-get_or, same_Some}
use Rattle.std.proofs.lemmas.Slice.Eq.{bytes_eq-Decides}
use Rattle.map_model.specs.declared.calls.Call.{Call}
use Rattle.map_model.specs.declared.calls.Call.TheVariants.{Get, Put, Delete}
use Rattle.map_model.specs.declared.calls.Reply.{Reply}
use Rattle.map_model.specs.declared.calls.Reply.TheVariants.{Done, Value, Absent, Full, NoSpace}
use Rattle.map_model.specs.declared.entries.Entry.{Entry}
use Rattle.map_model.specs.Linear.{IsLinear, IsPlacing, KeepsOrder, ReturnsBefore}
use Rattle.map_model.specs.Map.{Map, after, empty_map, is_legal_from, map_after, may_reply}
use Rattle.map_model.specs.Trace.{Moment, Returned}
use Rattle.map_model.proofs.LinearLemmas.{contained, get-append}
use Rattle.script_text.specs.declared.out_lines.OutLine.{OutLine}
use Rattle.script_text.specs.declared.out_lines.OutLine.TheVariants as line
use Rattle.script_text.specs.declared.out_lines.ReplyText.{ReplyText}
use Rattle.trace_audit.specs.declared.verdicts.Fault.TheVariants as fault
use Rattle.trace_audit.specs.Faults.{Agrees, IsListed}
use Rattle.trace_audit.specs.Fits.{HasReturned, Fits}
use Rattle.trace_audit.specs.Told.{moments_of, reply_of, trace_of, history_of}
use Rattle.trace_audit.specs.Traced.{IsTidy}
use Rattle.trace_audit.specs.Verdicts.{IsWhole, IsSound}
use Rattle.trace_audit.proofs.PlaceLemmas.{get-right, find_or_none}
use Rattle.trace_audit.proofs.TidyLemmas.{called_or_not, returned_or_not, tidy-fits}

-- ---- what cannot be false is true

bytes_stable : (xs ys : List ℕ) → ((xs ≡ ys → ⊥) → ⊥) → xs ≡ ys
bytes_stable xs ys h = by_test (bytes_eq xs ys) refl
  where
    by_test : (b : Bool) → bytes_eq xs ys ≡ b → xs ≡ ys
    by_test true e = (bytes_eq-Decides xs ys).0 e
    by_test false e = absurd (h (λ same. let is = (bytes_eq-Decides xs ys).1 same in cc))

number_stable : (x y : ℕ) → ((x ≡ y → ⊥) → ⊥) → x ≡ y
number_stable x y h = elim (cases_eq x y) [ inl e ↦ e | inr apart ↦ absurd (h apart) ]

call_stable : (a b : Call) → ((a ≡ b → ⊥) → ⊥) → a ≡ b
call_stable (Get k) (Get l) h = ap Get (bytes_stable k l (λ apart. h (λ e. apart (cc))))
call_stable (Delete k) (Delete l) h = ap Delete (bytes_stable k l (λ apart. h (λ e. apart (cc))))
call_stable (Put k v) (Put l w) h = ap₂ Put (bytes_stable k l (λ apart. h (λ e. apart (cc)))) (bytes_stable v w (λ apart. h (λ e. apart (cc))))
call_stable a b h = absurd (h (λ e. cc))

reply_stable : (a b : Reply) → ((a ≡ b → ⊥) → ⊥) → a ≡ b
reply_stable Done Done h = refl
reply_stable Absent Absent h = refl
reply_stable Full Full h = refl
reply_stable (Value v) (Value w) h = ap Value (bytes_stable v w (λ apart. h (λ e. apart (cc))))
reply_stable (NoSpace a b c) (NoSpace x y z) h =
    let p = number_stable a x (λ apart. h (λ e. apart (cc))) in
    let q = number_stable b y (λ apart. h (λ e. apart (cc))) in
    let r = number_stable c z (λ apart. h (λ e. apart (cc))) in
    cc
reply_stable a b h = absurd (h (λ e. cc))

mark_stable : (b : Bool) → ((IsTrue b → ⊥) → ⊥) → IsTrue b
mark_stable true h = refl
mark_stable false h = absurd (h (λ e. cc))

reply_true : (b : Bool) → (b ≡ false → ⊥) → b ≡ true
reply_true true h = refl
reply_true false h = absurd (h refl)

agrees_stable : (trace : List Moment) (e : Entry) → IsTidy trace → ((Agrees trace e → ⊥) → ⊥) → Agrees trace e
agrees_stable trace e tidy h = record {
  call = elim (called_or_not trace e.client e.number) [
    | inl called ↦
        let same : called.1 ≡ e.call = call_stable called.1 e.call (λ apart. h (λ a.
        let once = tidy.called_once e.client e.number called.0 a.call.0 called.1 e.call called.2 a.call.1 in
        let both = same_Some _ _ (sym called.2 ∙ ap (slice_get trace) once ∙ a.call.1) in
        apart (cc))) in
        (called.0, rw (sym same) called.2)
    | inr not ↦ absurd (h (λ a. not (a.call.0, e.call, a.call.1)))
  ];
  reply = λ at reply there. (mark_stable e.returned (λ not. h (λ a. not (a.reply at reply there).0)), reply_stable e.reply reply (λ not. h (λ a. not (a.reply at reply there).1)));
  mark = λ marked. elim (returned_or_not trace e.client e.number) [ inl r ↦ r | inr not ↦ absurd (h (λ a. not (a.mark marked))) ];
}

-- ---- legal lists, entry by entry

legal_all : (map : Map) (entries : List Entry) → ((i : ℕ) (e : Entry) → slice_get entries i ≡ Some e → may_reply (map_after map (take i entries)) e.call e.reply ≡ true) → is_legal_from map entries ≡ true
legal_all map [] each = refl
legal_all map (e ∷ es) each = rw (each 0 e refl) (legal_all (after map e.call e.reply) es (λ i a at. each (suc i) a at))

legal_each : (map : Map) (entries : List Entry) → is_legal_from map entries ≡ true → (i : ℕ) (e : Entry) → slice_get entries i ≡ Some e → may_reply (map_after map (take i entries)) e.call e.reply ≡ true
legal_each map [] legal i e at = cc
legal_each map (x ∷ es) legal zero e at = let same : x ≡ e = same_Some x e at in rw (sym same) (first_so (may_reply map x.call x.reply) _ legal)
legal_each map (x ∷ es) legal (suc i) e at = legal_each (after map x.call x.reply) es (second_so (may_reply map x.call x.reply) _ legal) i e at

-- ---- the returns of the trace are the `ended` lines

returned_line : (out : OutLine) (k c n : ℕ) (reply : Reply) → slice_get (moments_of out) k ≡ Some (Returned c n reply) → (text : ReplyText) × (out ≡ line.Ended c n text)
returned_line (line.Ended client number text) zero c n reply h = (text, cc)
returned_line (line.Ended client number text) (suc k) c n reply h = cc
returned_line (line.Called client number call) zero c n reply h = cc
returned_line (line.Called client number call) (suc k) c n reply h = cc
returned_line (line.Stopped client) zero c n reply h = cc
returned_line (line.Stopped client) (suc k) c n reply h = cc
returned_line out k c n reply h = cc

line_of_return : (lines : List OutLine) (t c n : ℕ) (reply : Reply) → slice_get (trace_of lines) t ≡ Some (Returned c n reply) → (at : ℕ) × (text : ReplyText) × (slice_get lines at ≡ Some (line.Ended c n text))
line_of_return [] t c n reply h = cc
line_of_return (out ∷ lines) t c n reply h = elim (get-append (moments_of out) (trace_of lines) t (Returned c n reply) h) [
  | inl here ↦ let is = returned_line out t c n reply here in (0, is.0, ap Some is.1)
  | inr later ↦ let rest = line_of_return lines later.0 c n reply later.2 in (suc rest.0, rest.1, rest.2)
]

return_of_line : (lines : List OutLine) (at c n : ℕ) (text : ReplyText) → slice_get lines at ≡ Some (line.Ended c n text) → HasReturned (trace_of lines) c n
return_of_line [] at c n text h = cc
return_of_line (out ∷ lines) zero c n text h =
    let is : line.Ended c n text ≡ out = sym (same_Some out _ h) in
    rw (sym is) (0, reply_of text, refl)
return_of_line (out ∷ lines) (suc at) c n text h =
    let rest = return_of_line lines at c n text h in
    (length (moments_of out) + rest.0, rest.1, get-right (moments_of out) (trace_of lines) rest.0 (Returned c n rest.1) rest.2)

-- ---- the entries of a call

pub listed_or_not : (entries : List Entry) (c n : ℕ) → IsListed entries c n ⊎ (IsListed entries c n → ⊥)
listed_or_not entries c n = elim (find_or_none (λ (e : Entry). (e.client ≡ c) × (e.number ≡ n)) named entries) [
  | inl found ↦ inl (found.0, found.1, slice_get_within entries found.0 found.1 found.2, found.2, found.3.0, found.3.1)
  | inr none ↦ inr (λ h. none h.0 h.1 h.3 (h.4, h.5))
]
  where
    named : (e : Entry) → ((e.client ≡ c) × (e.number ≡ n)) ⊎ (((e.client ≡ c) × (e.number ≡ n)) → ⊥)
    named e = elim (cases_eq e.client c) [
      | inl p ↦ elim (cases_eq e.number n) [ inl q ↦ inl (p, q) | inr not ↦ inr (λ h. not h.1) ]
      | inr not ↦ inr (λ h. not h.0)
    ]

place_of : {X : Type 0} (xs : List X) (x : X) (h : Contains xs x) → slice_get xs h.0 ≡ Some x
place_of xs x h = slice_get-get_or xs h.0 x h.1 ∙ ap Some h.2

-- ---- the two ways

module _ (lines : List OutLine) (fits : Fits lines) where
  abbrev Trace : List Moment
  Trace = trace_of lines

  abbrev Entries : List Entry
  Entries = history_of lines

  tidy : IsTidy Trace
  tidy = tidy-fits lines fits

  module _ (sound : IsSound lines) (whole : IsWhole lines Entries) where
    good : (i : ℕ) (e : Entry) → slice_get Entries i ≡ Some e → Agrees Trace e
    good i e at = agrees_stable Trace e tidy (sound i e (slice_get_within Entries i e at) at fault.Differs)

    good_entry : (e : Entry) → Contains Entries e → Agrees Trace e
    good_entry e h = good h.0 e (place_of Entries e h)

    single : (i j : ℕ) (a b : Entry) → slice_get Entries i ≡ Some a → slice_get Entries j ≡ Some b → a.client ≡ b.client → a.number ≡ b.number → i < j → ⊥
    single i j a b at there p q less = sound j b (slice_get_within Entries j b there) there fault.Double (i, a, less, at, p, q)

    -- no call returned before it was made
    not_before_itself : (a : Entry) → ReturnsBefore Trace a a → ⊥
    not_before_itself a r =
        let first = tidy.called_first a.client a.number r.returned_at r.reply r.returned in
        let same = tidy.called_once a.client a.number first.0 r.called_at first.1 r.call first.2 r.called in
        let earlier = r.earlier in
        omega (arith, first.3, same, earlier)

    placing : IsPlacing Trace Entries
    placing = record {
      called = λ e h. let a = good_entry e h in contained Trace a.call.0 _ a.call.1;
      marked = λ e h mark. let a = good_entry e h in let r = a.mark mark in contained Trace r.0 _ (subst (λ (x : Reply). slice_get Trace r.0 ≡ Some (Returned e.client e.number x)) (sym (a.reply r.0 r.1 r.2).1) r.2);
      replied = λ e h reply there. (good_entry e h).reply there.0 reply (place_of Trace _ there);
      placed = λ client number reply there.
          let ended = line_of_return lines there.0 client number reply (place_of Trace _ there) in
          elim (listed_or_not Entries client number) [
            | inl listed ↦ (listed.1, contained Entries listed.0 listed.1 listed.3, listed.4, listed.5)
            | inr not ↦ absurd (whole ended.0 client number _ ended.2 (ended.1, refl, not))
          ];
      once = λ i j a b at there p q. elim (cases_lt i j) [
        | inl less ↦ absurd (single i j a b at there p q less)
        | inr more ↦ elim (cases_lt j i) [ inl less ↦ absurd (single j i b a there at (sym p) (sym q) less) | inr upto ↦ omega (arith, more, upto) ]
      ];
    }

    order : KeepsOrder Trace Entries
    order i j a b at there r = elim (cases_lt i j) [
      | inl less ↦ less
      | inr more ↦ absurd (elim (cases_eq i j) [
        | inl same ↦ let is : b ≡ a = same_Some b a (sym there ∙ ap (slice_get Entries) (sym same) ∙ at) in not_before_itself a (rw is at r)
        | inr apart ↦ sound j b (slice_get_within Entries j b there) there fault.Order (i, a, omega (arith, more, apart), at, r)
      ])
    ]

    pub linear : IsLinear Trace Entries
    linear = record {
      placing = placing;
      legal = legal_all empty_map Entries (λ i e at. reply_true _ (sound i e (slice_get_within Entries i e at) at fault.Reply));
      order = order;
    }

  module _ (is : IsLinear Trace Entries) where
    agreed : (i : ℕ) (e : Entry) → slice_get Entries i ≡ Some e → Agrees Trace e
    agreed i e at =
        let has = contained Entries i e at in
        let called = is.placing.called e has in
        record {
          call = (called.0, place_of Trace _ called);
          reply = λ t reply there. is.placing.replied e has reply (contained Trace t _ there);
          mark = λ mark. let r = is.placing.marked e has mark in (r.0, e.reply, place_of Trace _ r);
        }

    pub sound_from : IsSound lines
    sound_from i e within at fault.Unknown = λ not. let a = agreed i e at in not (a.call.0, e.call, a.call.1)
    sound_from i e within at fault.Double = λ d. let same = is.placing.once d.0 i d.1 e d.3 at d.4 d.5 in let less : d.0 < i = d.2 in omega (arith, same, less)
    sound_from i e within at fault.Differs = λ not. not (agreed i e at)
    sound_from i e within at fault.Order = λ o. let before = is.order o.0 i o.1 e o.3 at o.4 in let after_it : i < o.0 = o.2 in omega (arith, before, after_it)
    sound_from i e within at fault.Reply = λ bad. let fine = legal_each empty_map Entries is.legal i e at in cc

    pub whole_from : IsWhole lines Entries
    whole_from at client number out there ends =
        let r = return_of_line lines at client number ends.0 (there ∙ ap Some ends.1) in
        let e = is.placing.placed client number r.1 (contained Trace r.0 _ r.2) in
        ends.2 (e.1.0, e.0, e.1.1, place_of Entries e.0 e.1, e.2, e.3)
