-- The list of an output stands before its end.
use Rattle.std.proofs.Common.{◌≡◌, ℕ, zero, suc, ◌⊎◌, inl, inr, Bool, true, false, IsTrue, List, [], ◌∷◌, ◌++◌, length, refl, sym, ◌∙◌, ap, arith}
use Rattle.map_model.specs.declared.entries.Entry.{Entry}
use Rattle.script_text.specs.declared.out_lines.OutLine.{OutLine}
use Rattle.script_text.specs.declared.out_lines.OutLine.TheVariants as line
use Rattle.script_text.specs.OutputShape.{IsOutput, IsOutputFrom}
use Rattle.trace_audit.specs.Outputs.{AreEntries, EndsWithList}
use Rattle.trace_audit.specs.Told.{history_of, list_after, list_from}

-- no history begins any more: the entries that are due, and `end`
record IsRest (due : ℕ) (over : Bool) (lines : List OutLine) : Type 0 where
  listed : List OutLine
  stands : lines ≡ listed ++ line.End ∷ []
  all : AreEntries listed
  count : length listed ≡ due
  after : due ≡ 0 → IsTrue over
  told : (entries : List Entry) → list_from entries lines ≡ list_from entries listed

-- a history begins: whatever was listed before, the list is its entries
record IsLast (lines : List OutLine) : Type 0 where
  before : List OutLine
  listed : List OutLine
  stands : lines ≡ before ++ (line.History (length listed) ∷ (listed ++ line.End ∷ []))
  all : AreEntries listed
  told : (entries : List Entry) → list_from entries lines ≡ list_from [] listed

-- a line before the last history changes nothing of it
last-later : (out : OutLine) (lines : List OutLine) → IsLast lines → IsLast (out ∷ lines)
last-later out lines last = record {
  before = out ∷ last.before;
  listed = last.listed;
  stands = ap (λ ls. out ∷ ls) last.stands;
  all = last.all;
  told = λ entries. last.told (list_after entries out);
}

last-begins : (count : ℕ) (lines : List OutLine) → IsRest count true lines → IsLast (line.History count ∷ lines)
last-begins count lines rest = record {
  before = [];
  listed = rest.listed;
  stands = ap (λ n. line.History n ∷ lines) (sym rest.count) ∙ ap (λ ls. line.History (length rest.listed) ∷ ls) rest.stands;
  all = rest.all;
  told = λ entries. rest.told [];
}

-- after a line that is no part of a history, a history must still come
not_over : (out : OutLine) (lines : List OutLine) → IsRest 0 false lines ⊎ IsLast lines → IsLast (out ∷ lines)
not_over out lines (inl rest) = absurd (let over = rest.after refl in cc)
not_over out lines (inr last) = last-later out lines last

parts : (due : ℕ) (over : Bool) (lines : List OutLine) → IsOutputFrom due over lines → IsRest due over lines ⊎ IsLast lines
parts due over [] h = absurd h
parts (suc due) over (line.Entry client number call reply unreturned ∷ lines) h = elim (parts due true lines h) [
  | inl rest ↦ inl (record {
    listed = line.Entry client number call reply unreturned ∷ rest.listed;
    stands = ap (λ ls. line.Entry client number call reply unreturned ∷ ls) rest.stands;
    all = rest.all;
    count = ap suc rest.count;
    after = λ e. absurd (omega (arith, e));
    told = λ entries. rest.told (list_after entries (line.Entry client number call reply unreturned));
  })
  | inr last ↦ inr (last-later (line.Entry client number call reply unreturned) lines last)
]
parts (suc due) over (out ∷ lines) h = absurd h
parts zero over (line.Entry client number call reply unreturned ∷ lines) h = absurd h
parts zero over (line.History count ∷ lines) h = elim (parts count true lines h) [
  | inl rest ↦ inr (last-begins count lines rest)
  | inr last ↦ inr (last-later (line.History count) lines last)
]
parts zero over (line.End ∷ lines) h = inl (record { listed = []; stands = ap (λ ls. line.End ∷ ls) h.1; all = tt; count = refl; after = λ e. h.0; told = λ entries. ap (list_from entries) h.1 })
parts zero over (out ∷ lines) h = inr (not_over out lines (parts zero false lines h))

pub output_ends : (lines : List OutLine) → IsOutput lines → EndsWithList lines (history_of lines)
output_ends lines is = elim (parts 0 false lines is) [
  | inl rest ↦ absurd (let over = rest.after refl in cc)
  | inr last ↦ record { before = last.before; listed = last.listed; stands = last.stands; all = last.all; told = last.told [] }
]
