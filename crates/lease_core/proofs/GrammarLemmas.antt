-- What is read is what the table says, and what is refused is first wrong.
use Rattle.std.proofs.Common.{◌≡◌, ℕ, suc, ◌+◌, Bool, true, false, ◌&&◌, ◌==◌, if◌then◌else◌, ◌⊎◌, inl, inr, List, [], ◌∷◌, length, map, bytes_eq, codes, Option, Some, None, is_some, Result, Ok, Err, refl, sym, ◌∙◌, ap, subst, arith}
use Rattle.std.proofs.lemmas.Bool.{cases_Bool}
use Rattle.std.proofs.lemmas.Bool.Decides.{nat_tests}
use Rattle.std.proofs.lemmas.Slice.Eq.{bytes_eq-Decides}
use Rattle.std.specs.List.{list_all}
use Rattle.text_lines.specs.Lines.{has_bad_byte}
use Rattle.text_lines.specs.Number.{number_of}
use Rattle.text_lines.specs.Words.{is_skipped, words_of}
use Rattle.lease_core.specs.declared.lease_lines.LeaseLine.{LeaseLine}
use Rattle.lease_core.specs.declared.lease_lines.LeaseLine.TheVariants as event
use Rattle.lease_core.specs.declared.reading.LeaseKind.{LeaseKind}
use Rattle.lease_core.specs.declared.reading.LeaseKind.TheVariants as kind
use Rattle.lease_core.specs.Grammar.{all_three, event_of, events_from, four_numbers, in_front, line_event, of_four, of_three, one_more, three_numbers, told, with_line}
use Rattle.lease_core.specs.LineTable.{AreLines, Tells, fault_of, fault_of_numbers, fault_of_words, fault_or, first_fault, is_number, name_of, numbers_of}

-- ---- numbers

all_three_ok : (a b c : Option ℕ) (t : ℕ × ℕ × ℕ) → all_three a b c ≡ Ok t → (a ∷ b ∷ c ∷ []) ≡ (Some t.0 ∷ Some t.1 ∷ Some t.2 ∷ [])
all_three_ok None b c t h = cc
all_three_ok (Some a) None c t h = cc
all_three_ok (Some a) (Some b) None t h = cc
all_three_ok (Some a) (Some b) (Some c) t h = let e : (a, b, c) ≡ t = cc in ap (λ (u : ℕ × ℕ × ℕ). Some u.0 ∷ Some u.1 ∷ Some u.2 ∷ []) e

three_ok : (words : List (List ℕ)) (t : ℕ × ℕ × ℕ) → three_numbers words ≡ Ok t → map number_of words ≡ Some t.0 ∷ Some t.1 ∷ Some t.2 ∷ []
three_ok [] t h = cc
three_ok (a ∷ []) t h = cc
three_ok (a ∷ b ∷ []) t h = cc
three_ok (a ∷ b ∷ c ∷ []) t h = all_three_ok (number_of a) (number_of b) (number_of c) t h
three_ok (a ∷ b ∷ c ∷ d ∷ words) t h = cc

one_more_ok : (a : Option ℕ) (rest : Result (ℕ × ℕ × ℕ) LeaseKind) (t : ℕ × ℕ × ℕ × ℕ) → one_more a rest ≡ Ok t → (a ≡ Some t.0) × (rest ≡ Ok (t.1, t.2, t.3))
one_more_ok a (Err k) t h = cc
one_more_ok None (Ok rest) t h = cc
one_more_ok (Some a) (Ok rest) t h = let e : (a, rest.0, rest.1, rest.2) ≡ t = cc in (ap (λ (u : ℕ × ℕ × ℕ × ℕ). Some u.0) e, ap (λ (u : ℕ × ℕ × ℕ × ℕ). Ok (u.1, u.2, u.3)) e)

four_ok : (words : List (List ℕ)) (t : ℕ × ℕ × ℕ × ℕ) → four_numbers words ≡ Ok t → map number_of words ≡ Some t.0 ∷ Some t.1 ∷ Some t.2 ∷ Some t.3 ∷ []
four_ok [] t h = cc
four_ok (a ∷ words) t h =
    let parts = one_more_ok (number_of a) (three_numbers words) t h in
    ap (λ (x : Option ℕ). x ∷ map number_of words) parts.0 ∙ ap (λ l. Some t.0 ∷ l) (three_ok words (t.1, t.2, t.3) parts.1)

three_from : (words : List (List ℕ)) (a b c : ℕ) → map number_of words ≡ Some a ∷ Some b ∷ Some c ∷ [] → three_numbers words ≡ Ok (a, b, c)
three_from [] a b c h = cc
three_from (x ∷ []) a b c h = cc
three_from (x ∷ y ∷ []) a b c h = cc
three_from (x ∷ y ∷ z ∷ []) a b c h =
    let p : number_of x ≡ Some a = cc in
    let q : number_of y ≡ Some b = cc in
    let r : number_of z ≡ Some c = cc in
    rw (p, q, r) refl
three_from (x ∷ y ∷ z ∷ w ∷ words) a b c h = cc

four_from : (words : List (List ℕ)) (a b c d : ℕ) → map number_of words ≡ Some a ∷ Some b ∷ Some c ∷ Some d ∷ [] → four_numbers words ≡ Ok (a, b, c, d)
four_from [] a b c d h = cc
four_from (x ∷ words) a b c d h =
    let p : number_of x ≡ Some a = cc in
    let rest : map number_of words ≡ Some b ∷ Some c ∷ Some d ∷ [] = cc in
    rw (p, three_from words b c d rest) refl

-- ---- events

of_three_ok : (make : ℕ → ℕ → ℕ → LeaseLine) (r : Result (ℕ × ℕ × ℕ) LeaseKind) (e : LeaseLine) → of_three make r ≡ Ok e → (t : ℕ × ℕ × ℕ) × (r ≡ Ok t) × (make t.0 t.1 t.2 ≡ e)
of_three_ok make (Ok t) e h = (t, refl, cc)
of_three_ok make (Err k) e h = cc

of_four_ok : (make : ℕ → ℕ → ℕ → ℕ → LeaseLine) (r : Result (ℕ × ℕ × ℕ × ℕ) LeaseKind) (e : LeaseLine) → of_four make r ≡ Ok e → (t : ℕ × ℕ × ℕ × ℕ) × (r ≡ Ok t) × (make t.0 t.1 t.2 t.3 ≡ e)
of_four_ok make (Ok t) e h = (t, refl, cc)
of_four_ok make (Err k) e h = cc

same_name : (name other : List ℕ) → bytes_eq name other ≡ true → name ≡ other
same_name name other h = (bytes_eq-Decides name other).0 h

tells : (name : List ℕ) (words : List (List ℕ)) (e : LeaseLine) → name ≡ name_of e → map number_of words ≡ map Some (numbers_of e) → Tells (name ∷ words) e
tells name words e same values = record { numbers = words; words_are = ap (λ (n : List ℕ). n ∷ words) same; values = values }

module _ (name : List ℕ) (words : List (List ℕ)) (e : LeaseLine) where
  of_three_tells : (make : ℕ → ℕ → ℕ → LeaseLine) → ((a b c : ℕ) → (name ≡ name_of (make a b c)) × (numbers_of (make a b c) ≡ a ∷ b ∷ c ∷ [])) → of_three make (three_numbers words) ≡ Ok e → Tells (name ∷ words) e
  of_three_tells make is h =
      let parts = of_three_ok make (three_numbers words) e h in
      let known = is parts.0.0 parts.0.1 parts.0.2 in
      subst (Tells (name ∷ words)) parts.2 (tells name words (make parts.0.0 parts.0.1 parts.0.2) known.0 (three_ok words parts.0 parts.1 ∙ sym (ap (map Some) known.1)))

  of_four_tells : (make : ℕ → ℕ → ℕ → ℕ → LeaseLine) → ((a b c d : ℕ) → (name ≡ name_of (make a b c d)) × (numbers_of (make a b c d) ≡ a ∷ b ∷ c ∷ d ∷ [])) → of_four make (four_numbers words) ≡ Ok e → Tells (name ∷ words) e
  of_four_tells make is h =
      let parts = of_four_ok make (four_numbers words) e h in
      let known = is parts.0.0 parts.0.1 parts.0.2 parts.0.3 in
      subst (Tells (name ∷ words)) parts.2 (tells name words (make parts.0.0 parts.0.1 parts.0.2 parts.0.3) known.0 (four_ok words parts.0 parts.1 ∙ sym (ap (map Some) known.1)))

  by_name : (a g t v f : Bool) → bytes_eq name (codes "ask") ≡ a → bytes_eq name (codes "grant") ≡ g → bytes_eq name (codes "take") ≡ t → bytes_eq name (codes "verb") ≡ v → bytes_eq name (codes "fence") ≡ f
      → (if a then of_three (λ client p m. event.Ask client p m) (three_numbers words)
      else (if g then of_four (λ client ask p m. event.Grant client ask p m) (four_numbers words)
      else (if t then of_four (λ client ask p m. event.Take client ask p m) (four_numbers words)
      else (if v then of_three (λ client p m. event.Verb client p m) (three_numbers words)
      else (if f then of_three (λ client p m. event.Fence client p m) (three_numbers words)
      else Err kind.Word))))) ≡ Ok e → Tells (name ∷ words) e
  by_name true g t v f is_a is_g is_t is_v is_f h = of_three_tells (λ client p m. event.Ask client p m) (λ client p m. (same_name name (codes "ask") is_a, refl)) h
  by_name false true t v f is_a is_g is_t is_v is_f h = of_four_tells (λ client ask p m. event.Grant client ask p m) (λ client ask p m. (same_name name (codes "grant") is_g, refl)) h
  by_name false false true v f is_a is_g is_t is_v is_f h = of_four_tells (λ client ask p m. event.Take client ask p m) (λ client ask p m. (same_name name (codes "take") is_t, refl)) h
  by_name false false false true f is_a is_g is_t is_v is_f h = of_three_tells (λ client p m. event.Verb client p m) (λ client p m. (same_name name (codes "verb") is_v, refl)) h
  by_name false false false false true is_a is_g is_t is_v is_f h = of_three_tells (λ client p m. event.Fence client p m) (λ client p m. (same_name name (codes "fence") is_f, refl)) h
  by_name false false false false false is_a is_g is_t is_v is_f h = cc

event_tells : (words : List (List ℕ)) (e : LeaseLine) → event_of words ≡ Ok e → Tells words e
event_tells [] e h = cc
event_tells (name ∷ words) e h = by_name name words e _ _ _ _ _ refl refl refl refl refl h

told_event : (e : LeaseLine) (numbers : List (List ℕ)) → map number_of numbers ≡ map Some (numbers_of e) → event_of (name_of e ∷ numbers) ≡ Ok e
told_event (event.Ask client p m) numbers h = ap (of_three (λ client' p' m'. event.Ask client' p' m')) (three_from numbers client p m h)
told_event (event.Grant client ask p m) numbers h = ap (of_four (λ client' ask' p' m'. event.Grant client' ask' p' m')) (four_from numbers client ask p m h)
told_event (event.Take client ask p m) numbers h = ap (of_four (λ client' ask' p' m'. event.Take client' ask' p' m')) (four_from numbers client ask p m h)
told_event (event.Verb client p m) numbers h = ap (of_three (λ client' p' m'. event.Verb client' p' m')) (three_from numbers client p m h)
told_event (event.Fence client p m) numbers h = ap (of_three (λ client' p' m'. event.Fence client' p' m')) (three_from numbers client p m h)

tells_event : (words : List (List ℕ)) (e : LeaseLine) → Tells words e → event_of words ≡ Ok e
tells_event words e is = ap event_of is.words_are ∙ told_event e is.numbers is.values

-- ---- lines

in_front_ok : (e : LeaseLine) (rest : Result (List LeaseLine) (ℕ × LeaseKind)) (events : List LeaseLine) → in_front e rest ≡ Ok events → (later : List LeaseLine) × (events ≡ e ∷ later) × (rest ≡ Ok later)
in_front_ok e (Ok later) events h = (later, cc, refl)
in_front_ok e (Err bad) events h = cc

read_event : (number : ℕ) (words : List (List ℕ)) (rest : Result (List LeaseLine) (ℕ × LeaseKind)) (events : List LeaseLine) (read : Result LeaseLine LeaseKind) → event_of words ≡ read → with_line number (told read) rest ≡ Ok events → (e : LeaseLine) × (later : List LeaseLine) × (events ≡ e ∷ later) × Tells words e × (rest ≡ Ok later)
read_event number words rest events (Ok e) is h = let parts = in_front_ok e rest events h in (e, parts.0, parts.1, event_tells words e is, parts.2)
read_event number words rest events (Err k) is h = cc

read_line : (number : ℕ) (line : List ℕ) (rest : Result (List LeaseLine) (ℕ × LeaseKind)) (bad skipped : Bool) (events : List LeaseLine) → has_bad_byte line ≡ bad → is_skipped (words_of line) ≡ skipped
    → with_line number (if bad then Err kind.Byte else (if skipped then Ok None else told (event_of (words_of line)))) rest ≡ Ok events
    → (bad ≡ false) × (((skipped ≡ true) × (rest ≡ Ok events)) ⊎ ((skipped ≡ false) × ((e : LeaseLine) × (later : List LeaseLine) × (events ≡ e ∷ later) × Tells (words_of line) e × (rest ≡ Ok later))))
read_line number line rest true skipped events is_bad is_skip h = cc
read_line number line rest false true events is_bad is_skip h = (refl, inl (refl, h))
read_line number line rest false false events is_bad is_skip h = (refl, inr (refl, read_event number (words_of line) rest events _ refl h))

-- what is read are lines of the table
pub lines_from_read : (number : ℕ) (lines : List (List ℕ)) (events : List LeaseLine) → events_from number lines ≡ Ok events → AreLines lines events
lines_from_read number [] events h = cc
lines_from_read number (line ∷ lines) events h =
    let parts = read_line number line (events_from (number + 1) lines) _ _ events refl refl h in (
      parts.0,
      elim parts.1 [
        | inl skipped ↦ inl (skipped.0, lines_from_read (number + 1) lines events skipped.1)
        | inr told' ↦ inr (told'.0, (told'.1.0, told'.1.1, told'.1.2, told'.1.3, lines_from_read (number + 1) lines told'.1.1 told'.1.4))
      ],
    )

-- lines of the table are read
pub read_from_lines : (number : ℕ) (lines : List (List ℕ)) (events : List LeaseLine) → AreLines lines events → events_from number lines ≡ Ok events
read_from_lines number [] events is = ap Ok (sym is)
read_from_lines number (line ∷ lines) events is = elim is.1 [
  | inl skipped ↦ rw (is.0, skipped.0) (read_from_lines (number + 1) lines events skipped.1)
  | inr told' ↦
      let e = told'.1.0 in
      let rest = read_from_lines (number + 1) lines told'.1.1 told'.1.4 in
      rw (is.0, told'.0, tells_event (words_of line) e told'.1.3, rest) (ap Ok (sym told'.1.2))
]

-- ---- faults

abbrev fault_in : {A : Type 0} → Result A LeaseKind → Option LeaseKind
fault_in (Ok x) = None
fault_in (Err k) = Some k

three_options : (a b c : Option ℕ) → fault_in (all_three a b c) ≡ (if is_some a && (is_some b && (is_some c && true)) then None else Some kind.Number)
three_options None b c = refl
three_options (Some a) None c = refl
three_options (Some a) (Some b) None = refl
three_options (Some a) (Some b) (Some c) = refl

three_fault : (words : List (List ℕ)) → fault_in (three_numbers words) ≡ fault_of_numbers (Some 3) words
three_fault [] = refl
three_fault (a ∷ []) = refl
three_fault (a ∷ b ∷ []) = refl
three_fault (a ∷ b ∷ c ∷ []) = three_options (number_of a) (number_of b) (number_of c)
three_fault (a ∷ b ∷ c ∷ d ∷ words) =
    let n = length words in
    let more : (suc (suc (suc (suc n))) == 3) ≡ false = grind (arith, nat_tests) in
    rw more refl

with_three : (a : Option ℕ) (rest : Result (ℕ × ℕ × ℕ) LeaseKind) (all : Bool) → fault_in rest ≡ (if all then None else Some kind.Number) → fault_in (one_more a rest) ≡ (if is_some a && all then None else Some kind.Number)
with_three None (Ok t) all h = refl
with_three None (Err k) true h = cc
with_three None (Err k) false h = h
with_three (Some a) (Ok t) true h = refl
with_three (Some a) (Ok t) false h = cc
with_three (Some a) (Err k) true h = h
with_three (Some a) (Err k) false h = h

without_three : (a : Option ℕ) (rest : Result (ℕ × ℕ × ℕ) LeaseKind) → fault_in rest ≡ Some kind.Count → fault_in (one_more a rest) ≡ Some kind.Count
without_three a (Ok t) h = cc
without_three a (Err k) h = h

one_more_fault : (a : Option ℕ) (rest : Result (ℕ × ℕ × ℕ) LeaseKind) (n : ℕ) (all : Bool) → fault_in rest ≡ (if n == 3 then (if all then None else Some kind.Number) else Some kind.Count) → fault_in (one_more a rest) ≡ (if suc n == 4 then (if is_some a && all then None else Some kind.Number) else Some kind.Count)
one_more_fault a rest n all h = elim (cases_Bool (n == 3)) [
  | inl is ↦
      let four : (suc n == 4) ≡ true = grind (arith, nat_tests) in
      let fault : fault_in rest ≡ (if all then None else Some kind.Number) = rw is at h in
      rw four (with_three a rest all fault)
  | inr other ↦
      let four : (suc n == 4) ≡ false = grind (arith, nat_tests) in
      let fault : fault_in rest ≡ Some kind.Count = rw other at h in
      rw four (without_three a rest fault)
]

four_fault : (words : List (List ℕ)) → fault_in (four_numbers words) ≡ fault_of_numbers (Some 4) words
four_fault [] = refl
four_fault (a ∷ words) = one_more_fault (number_of a) (three_numbers words) (length words) (list_all is_number words) (three_fault words)

of_three_fault : (make : ℕ → ℕ → ℕ → LeaseLine) (r : Result (ℕ × ℕ × ℕ) LeaseKind) → fault_in (of_three make r) ≡ fault_in r
of_three_fault make (Ok t) = refl
of_three_fault make (Err k) = refl

of_four_fault : (make : ℕ → ℕ → ℕ → ℕ → LeaseLine) (r : Result (ℕ × ℕ × ℕ × ℕ) LeaseKind) → fault_in (of_four make r) ≡ fault_in r
of_four_fault make (Ok t) = refl
of_four_fault make (Err k) = refl

fault_by_name : (words : List (List ℕ)) (a g t v f : Bool) → fault_in (if a then of_three (λ client p m. event.Ask client p m) (three_numbers words)
    else (if g then of_four (λ client ask p m. event.Grant client ask p m) (four_numbers words)
    else (if t then of_four (λ client ask p m. event.Take client ask p m) (four_numbers words)
    else (if v then of_three (λ client p m. event.Verb client p m) (three_numbers words)
    else (if f then of_three (λ client p m. event.Fence client p m) (three_numbers words)
    else Err kind.Word)))))
    ≡ fault_of_numbers (if a then Some 3 else (if g then Some 4 else (if t then Some 4 else (if v then Some 3 else (if f then Some 3 else None))))) words
fault_by_name words true g t v f = of_three_fault _ (three_numbers words) ∙ three_fault words
fault_by_name words false true t v f = of_four_fault _ (four_numbers words) ∙ four_fault words
fault_by_name words false false true v f = of_four_fault _ (four_numbers words) ∙ four_fault words
fault_by_name words false false false true f = of_three_fault _ (three_numbers words) ∙ three_fault words
fault_by_name words false false false false true = of_three_fault _ (three_numbers words) ∙ three_fault words
fault_by_name words false false false false false = refl

event_fault : (words : List (List ℕ)) → fault_in (event_of words) ≡ fault_of_words words
event_fault [] = refl
event_fault (name ∷ words) = fault_by_name words (bytes_eq name (codes "ask")) (bytes_eq name (codes "grant")) (bytes_eq name (codes "take")) (bytes_eq name (codes "verb")) (bytes_eq name (codes "fence"))

told_fault : (r : Result LeaseLine LeaseKind) → fault_in (told r) ≡ fault_in r
told_fault (Ok e) = refl
told_fault (Err k) = refl

line_fault : (words : List (List ℕ)) (bad skipped : Bool) → fault_in (if bad then Err kind.Byte else (if skipped then Ok None else told (event_of words))) ≡ (if bad then Some kind.Byte else (if skipped then None else fault_of_words words))
line_fault words true skipped = refl
line_fault words false true = refl
line_fault words false false = told_fault (event_of words) ∙ event_fault words

event_fault_of : (line : List ℕ) → fault_in (line_event line) ≡ fault_of line
event_fault_of line = line_fault (words_of line) (has_bad_byte line) (is_skipped (words_of line))

abbrev bad_in : Result (List LeaseLine) (ℕ × LeaseKind) → Option (ℕ × LeaseKind)
bad_in (Ok events) = None
bad_in (Err bad) = Some bad

in_front_bad : (e : LeaseLine) (rest : Result (List LeaseLine) (ℕ × LeaseKind)) → bad_in (in_front e rest) ≡ bad_in rest
in_front_bad e (Ok events) = refl
in_front_bad e (Err bad) = refl

with_line_bad : (number : ℕ) (read : Result (Option LeaseLine) LeaseKind) (rest : Result (List LeaseLine) (ℕ × LeaseKind)) → bad_in (with_line number read rest) ≡ fault_or number (fault_in read) (bad_in rest)
with_line_bad number (Err k) rest = refl
with_line_bad number (Ok None) rest = refl
with_line_bad number (Ok (Some e)) rest = in_front_bad e rest

bad_in_events : (number : ℕ) (lines : List (List ℕ)) → bad_in (events_from number lines) ≡ first_fault number lines
bad_in_events number [] = refl
bad_in_events number (line ∷ lines) =
    with_line_bad number (line_event line) (events_from (number + 1) lines)
    ∙ ap (λ f. fault_or number f (bad_in (events_from (number + 1) lines))) (event_fault_of line)
    ∙ ap (fault_or number (fault_of line)) (bad_in_events (number + 1) lines)

bad_of : (read : Result (List LeaseLine) (ℕ × LeaseKind)) (bad : ℕ × LeaseKind) → bad_in read ≡ Some bad → read ≡ Err bad
bad_of (Ok events) bad h = cc
bad_of (Err other) bad h = let same : other ≡ bad = cc in ap Err same

-- what is refused has this first fault
pub fault_from_read : (number : ℕ) (lines : List (List ℕ)) (bad : ℕ × LeaseKind) → events_from number lines ≡ Err bad → first_fault number lines ≡ Some bad
fault_from_read number lines bad h = sym (bad_in_events number lines) ∙ ap bad_in h

pub read_from_fault : (number : ℕ) (lines : List (List ℕ)) (bad : ℕ × LeaseKind) → first_fault number lines ≡ Some bad → events_from number lines ≡ Err bad
read_from_fault number lines bad h = bad_of (events_from number lines) bad (bad_in_events number lines ∙ h)
