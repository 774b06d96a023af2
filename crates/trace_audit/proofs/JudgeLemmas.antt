-- The faults of an entry, by the table, the names before it, the map before it and the returns after it.
use Rattle.std.proofs.Common.{◌≡◌, ℕ, ◌+◌, ◌-◌, ◌<◌, ◌≤◌, ◌⊎◌, inl, inr, Bool, true, false, ◌||◌, ◌&&◌, ◌==◌, min, List, length, Option, Some, None, take, get_or, map, refl, sym, ◌∙◌, ap, subst, set, arith}
use Rattle.std.specs.Prelude.{slice_get, MatchOption}
use Rattle.std.specs.BTreeSet.{BTreeSet}
use Rattle.std.specs.Option.{option_map}
use Rattle.std.proofs.lemmas.Bool.{cases_lt, cases_eq}
use Rattle.std.proofs.lemmas.Option.{slice_get_read, slice_get_within, slice_get-map, same_Some, get_or_from_slice_get}
use Rattle.map_model.specs.declared.entries.Entry.{Entry}
use Rattle.map_model.specs.Linear.{ReturnsBefore}
use Rattle.map_model.specs.Map.{after, empty_map, map_after, may_reply}
use Rattle.map_model.specs.Trace.{Moment}
use Rattle.map_model.proofs.MapLemmas.{map_after-take}
use Rattle.trace_audit.specs.declared.tables.Row.{Row}
use Rattle.trace_audit.specs.declared.verdicts.Fault.{Fault}
use Rattle.trace_audit.specs.declared.verdicts.Fault.TheVariants as fault
use Rattle.trace_audit.specs.Faults.{Agrees, HasFault, IsFaultless, IsFirstFault, IsListedBefore, AreFaultless, rank}
use Rattle.trace_audit.specs.Fits.{IsCalled, HasReturned}
use Rattle.trace_audit.specs.Judged.{AreNames, IsEarliest, ReturnsAt, earlier_time}
use Rattle.trace_audit.specs.Tables.{is_listed}
use Rattle.trace_audit.specs.Told.{call_of}
use Rattle.trace_audit.specs.Traced.{IsRow, IsTidy, RepliedAt}
use Rattle.trace_audit.proofs.NameLemmas.{same_or_other}
use Rattle.trace_audit.proofs.PlaceLemmas.{get-set_same, get-set_other}
use Rattle.trace_audit.proofs.ToldLemmas.{bool_map, bool_same}

-- an element of a list, in the list of what f makes of it
pub mapped_at : {X Y : Type 0} (f : X → Y) (xs : List X) (i : ℕ) (x : X) → i < length xs → x ≡ get_or xs i x → slice_get (map f xs) i ≡ Some (f x)
mapped_at f xs i x within is = slice_get-map f xs i ∙ ap (option_map f) (slice_get_read xs (length xs) i x refl within is)

-- ---- the earliest return of the entries from a place on

module _ (trace : List Moment) (tidy : IsTidy trace) (entries : List Entry) (i : ℕ) (e : Entry) (at : slice_get entries i ≡ Some e) where
  here_or_later : (t : ℕ) → ReturnsAt trace entries i t → RepliedAt trace e.client e.number t ⊎ ReturnsAt trace entries (i + 1) t
  here_or_later t r = elim (cases_eq r.0 i) [
    | inl same ↦
        let is : r.1 ≡ e = same_Some r.1 e (sym r.4 ∙ ap (slice_get entries) same ∙ at) in
        inl (r.2, rw (ap (λ (x : Entry). x.client) (sym is), ap (λ (x : Entry). x.number) (sym is)) r.5)
    | inr apart ↦ let from : i ≤ r.0 = r.3 in inr (r.0, r.1, r.2, omega (arith, from, apart), r.4, r.5)
  ]

  here_is : (t : ℕ) → RepliedAt trace e.client e.number t → ReturnsAt trace entries i t
  here_is t h = (i, e, h.0, omega arith, at, h.1)

  later_is : (t : ℕ) → ReturnsAt trace entries (i + 1) t → ReturnsAt trace entries i t
  later_is t r = let from : i + 1 ≤ r.0 = r.3 in (r.0, r.1, r.2, omega (arith, from), r.4, r.5)

  same_time : (t u : ℕ) → RepliedAt trace e.client e.number t → RepliedAt trace e.client e.number u → t ≡ u
  same_time t u h k = tidy.returned_once e.client e.number t u h.0 k.0 h.1 k.1

  -- the entry at the place before comes to them
  pub earliest_step : (least time : Option ℕ) → IsEarliest trace entries (i + 1) least → MatchOption time (HasReturned trace e.client e.number → ⊥) (RepliedAt trace e.client e.number) → IsEarliest trace entries i (earlier_time least time)
  earliest_step None None none not = λ t r. elim (here_or_later t r) [ inl h ↦ not (t, h.0, h.1) | inr k ↦ none t k ]
  earliest_step None (Some t) none is = (here_is t is, λ u r. elim (here_or_later u r) [ inl h ↦ let same = same_time t u is h in omega (arith, same) | inr k ↦ absurd (none u k) ])
  earliest_step (Some s) None first not = (later_is s first.0, λ u r. elim (here_or_later u r) [ inl h ↦ absurd (not (u, h.0, h.1)) | inr k ↦ first.1 u k ])
  earliest_step (Some s) (Some t) first is = (least_is, λ u r. elim (here_or_later u r) [ inl h ↦ let same = same_time t u is h in omega (arith, same) | inr k ↦ let upto = first.1 u k in omega (arith, upto) ])
    where
      least_is : ReturnsAt trace entries i (min s t)
      least_is = elim (cases_lt s t) [
        | inl less ↦ let m : min s t ≡ s = omega arith in rw m (later_is s first.0)
        | inr more ↦ let m : min s t ≡ t = omega arith in rw m (here_is t is)
      ]

-- the same, counted down to the place before
module _ (trace : List Moment) (entries : List Entry) (n : ℕ) (above : 0 < n) (least : Option ℕ) (first : IsEarliest trace entries n least) where
  one_less : n ≡ (n - 1) + 1
  one_less = omega arith

  pub earliest_before : IsTidy trace → (e : Entry) → slice_get entries (n - 1) ≡ Some e → (time : Option ℕ) → MatchOption time (HasReturned trace e.client e.number → ⊥) (RepliedAt trace e.client e.number) → IsEarliest trace entries (n - 1) (earlier_time least time)
  earliest_before tidy e at time is = earliest_step trace tidy entries (n - 1) e at least time (subst (λ k. IsEarliest trace entries k least) one_less first) is

  pub told_before : (later : List (Option ℕ)) → ((place : ℕ) (time : Option ℕ) → n ≤ place → slice_get later place ≡ Some time → IsEarliest trace entries (place + 1) time)
      → (place : ℕ) (time : Option ℕ) → n - 1 ≤ place → slice_get (set later (n - 1) least) place ≡ Some time → IsEarliest trace entries (place + 1) time
  told_before later told place time from at = elim (cases_eq place (n - 1)) [
    | inl same ↦
        let is : least ≡ time = get-set_same later (n - 1) least time (rw same at at) in
        let next : n ≡ place + 1 = omega (arith, same) in
        subst (λ k. IsEarliest trace entries k time) next (subst (IsEarliest trace entries n) is first)
    | inr apart ↦ told place time (omega (arith, from, apart)) (get-set_other later (n - 1) place least time apart at)
  ]

-- ---- the names of the entries before a place

pub names_more : (entries : List Entry) (place : ℕ) (names names' : BTreeSet (ℕ × ℕ)) (e : Entry) → slice_get entries place ≡ Some e
    → ((c n : ℕ) → is_listed names' c n ≡ (((c == e.client) && (n == e.number)) || is_listed names c n)) → AreNames entries place names → AreNames entries (place + 1) names'
names_more entries place names names' e at added listed = λ c n. elim (same_or_other e.client e.number c n) [
  | inl same ↦ bool_same (is_listed names' c n) true _ _ (added c n ∙ ap (λ b. b || is_listed names c n) same.2) (place, e, omega arith, at, sym same.0, sym same.1)
  | inr other ↦ bool_same (is_listed names' c n) (is_listed names c n) _ _ (added c n ∙ ap (λ b. b || is_listed names c n) other.1)
      (bool_map (is_listed names c n) _ _ _ _ (λ h. let less : h.0 < place = h.2 in (h.0, h.1, omega (arith, less), h.3, h.4, h.5)) (λ not h. not (older c n other.0 h)) (listed c n))
]
  where
    older : (c n : ℕ) → (c ≡ e.client → n ≡ e.number → ⊥) → IsListedBefore entries (place + 1) c n → IsListedBefore entries place c n
    older c n apart h = elim (cases_eq h.0 place) [
      | inl same ↦
          let is : e ≡ h.1 = same_Some e h.1 (sym at ∙ ap (slice_get entries) (sym same) ∙ h.3) in
          absurd (apart (sym h.4 ∙ ap (λ (x : Entry). x.client) (sym is)) (sym h.5 ∙ ap (λ (x : Entry). x.number) (sym is)))
      | inr less ↦ let under : h.0 < place + 1 = h.2 in (h.0, h.1, omega (arith, under, less), h.3, h.4, h.5)
    ]

-- ---- the faults

module _ (trace : List Moment) (entries : List Entry) (place : ℕ) (e : Entry) where
  -- no fault before the one of this rank, where those of smaller ranks are not there
  not_before : (k : ℕ) → (0 < k → HasFault trace entries place e fault.Unknown → ⊥) → (1 < k → HasFault trace entries place e fault.Double → ⊥) → (2 < k → HasFault trace entries place e fault.Differs → ⊥)
      → (3 < k → HasFault trace entries place e fault.Order → ⊥) → (4 < k → HasFault trace entries place e fault.Reply → ⊥) → (other : Fault) → rank other < k → HasFault trace entries place e other → ⊥
  not_before k a b c d f fault.Unknown less = a less
  not_before k a b c d f fault.Double less = b less
  not_before k a b c d f fault.Differs less = c less
  not_before k a b c d f fault.Order less = d less
  not_before k a b c d f fault.Reply less = f less

  below_five : (other : Fault) → rank other < 5
  below_five fault.Unknown = omega arith
  below_five fault.Double = omega arith
  below_five fault.Differs = omega arith
  below_five fault.Order = omega arith
  below_five fault.Reply = omega arith

  module _ (row : Row) (is : IsRow trace e.client e.number row) where
    known : (IsCalled trace e.client e.number → ⊥) → ⊥
    known not = not (row.invoked, call_of row.call.now, is.called)

    module _ (single : IsListedBefore entries place e.client e.number → ⊥) where
      module _ (agrees : Agrees trace e) (tidy : IsTidy trace) (later : Option ℕ) (earliest : IsEarliest trace entries (place + 1) later) where
        -- the row's call was invoked after the earliest return
        abbrev Late : Type 0
        Late = (t : ℕ) × (later ≡ Some t) × (t < row.invoked)

        overtaken : (t : ℕ) → ReturnsAt trace entries (place + 1) t → t < row.invoked → HasFault trace entries place e fault.Order
        overtaken t r less = (r.0, r.1, (let from : place + 1 ≤ r.0 = r.3 in omega (arith, from)), r.4, record { reply = r.2; call = call_of row.call.now; returned_at = t; called_at = row.invoked; returned = r.5; called = is.called; earlier = less })

        by_earliest : (o : Option ℕ) → IsEarliest trace entries (place + 1) o → (t : ℕ) → o ≡ Some t → ReturnsAt trace entries (place + 1) t
        by_earliest None first t h = cc
        by_earliest (Some s) first t h = let same : s ≡ t = same_Some s t h in rw (sym same) first.0

        pub order : Late → IsFirstFault trace entries place e fault.Order
        order late = (overtaken late.0 (by_earliest later earliest late.0 late.1) late.2, not_before 3 (λ l. known) (λ l. single) (λ l not. not agrees) (λ l. absurd (omega arith)) (λ l. absurd (omega arith)))

        not_overtaken : (o : Option ℕ) → IsEarliest trace entries (place + 1) o → (((t : ℕ) × (o ≡ Some t) × (t < row.invoked)) → ⊥) → HasFault trace entries place e fault.Order → ⊥
        not_overtaken o first not h =
            let before : ReturnsBefore trace h.1 e = h.4 in
            let again : ReturnsAt trace entries (place + 1) before.returned_at = (h.0, h.1, before.reply, (let less : place < h.0 = h.2 in omega (arith, less)), h.3, before.returned) in
            let same : before.called_at ≡ row.invoked = tidy.called_once e.client e.number before.called_at row.invoked before.call (call_of row.call.now) before.called is.called in
            by_time o first not before.returned_at again (let earlier = before.earlier in omega (arith, earlier, same))
          where
            by_time : (o : Option ℕ) → IsEarliest trace entries (place + 1) o → (((t : ℕ) × (o ≡ Some t) × (t < row.invoked)) → ⊥) → (u : ℕ) → ReturnsAt trace entries (place + 1) u → u < row.invoked → ⊥
            by_time None first not u again less = first u again
            by_time (Some s) first not u again less = let upto = first.1 u again in not (s, refl, omega (arith, upto))

        module _ (in_time : Late → ⊥) (m : Bool) (may : m ≡ may_reply (map_after empty_map (take place entries)) e.call e.reply) where
          pub wrong_reply : m ≡ false → IsFirstFault trace entries place e fault.Reply
          wrong_reply bad = (sym may ∙ bad, not_before 4 (λ l. known) (λ l. single) (λ l not. not agrees) (λ l. not_overtaken later earliest in_time) (λ l. absurd (omega arith)))

          pub faultless : m ≡ true → IsFaultless trace entries place e
          faultless good = λ other. not_before 5 (λ l. known) (λ l. single) (λ l not. not agrees) (λ l. not_overtaken later earliest in_time) (λ l bad. cc) other (below_five other)

-- one more entry without fault
pub faultless_more : (trace : List Moment) (entries : List Entry) (place : ℕ) (e : Entry) → slice_get entries place ≡ Some e → AreFaultless trace entries place → IsFaultless trace entries place e → AreFaultless trace entries (place + 1)
faultless_more trace entries place e there before is = λ at a under here. elim (cases_eq at place) [
  | inl same ↦ rw (same, same_Some a e (sym here ∙ ap (slice_get entries) same ∙ there)) is
  | inr apart ↦ before at a (omega (arith, under, apart)) here
]

-- the map after one more entry
pub held_more : (entries : List Entry) (place : ℕ) (e : Entry) → slice_get entries place ≡ Some e → map_after empty_map (take (place + 1) entries) ≡ after (map_after empty_map (take place entries)) e.call e.reply
held_more entries place e at = map_after-take empty_map entries place e (slice_get_within entries place e at) (sym (get_or_from_slice_get entries place e e at))
