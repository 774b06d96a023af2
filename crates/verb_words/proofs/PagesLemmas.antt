use Rattle.std.proofs.Common.{◌≡◌, ◌≢◌, ℕ, zero, suc, ◌+◌, ◌-◌, ◌*◌, ◌/◌, ◌%◌, ◌<◌, ◌≤◌, ◌^◌, inl, inr, List, [], ◌∷◌, ◌++◌, length, take, replicate, set, get_or, refl, sym, ◌∙◌, ap, arith}
use Rattle.std.proofs.Math.ListN.{get_or-append}
use Rattle.std.proofs.Math.Seq.{get_or-append_right}
use Rattle.std.proofs.lemmas.Bool.Decides.{eqb_tells}
use Rattle.std.proofs.lemmas.Grind.{get_or_default_zero}
use Rattle.std.proofs.lemmas.List.{take_all, get_or-set_same, get_or-set_other, get_or-replicate, length-replicate, length-append, length-set}
use Rattle.std.proofs.lemmas.List.FromFn.{length-map-range_with_len, get_or-map-range_with_len, fill_by_all}
use Rattle.verb_words.specs.Pages.{word_in, words_in, with_page, own_pages, ArePages}

pub length-words_in : (table store : List ℕ) (count : ℕ) → length (words_in table store count) ≡ count
length-words_in table store count = length-map-range_with_len (word_in table store) 0 count

pub get_or-words_in : (table store : List ℕ) (count at : ℕ) → at < count
    → get_or (words_in table store count) at 0 ≡ word_in table store at
get_or-words_in table store count at within = get_or-map-range_with_len (word_in table store) 0 count at at 0 within (omega arith)

-- the same words at each position are the same words
words_in-same : (table store other later : List ℕ) (count : ℕ)
    → ((at : ℕ) → at < count → word_in table store at ≡ word_in other later at)
    → words_in table store count ≡ words_in other later count
words_in-same table store other later count same =
    fill_by_all (word_in other later) (words_in table store count) count 0 (length-words_in table store count)
    (λ at within. get_or-words_in table store count at within ∙ same at within)

own_pages-most : (table : List ℕ) → own_pages table ≤ length table
own_pages-most [] = omega arith
own_pages-most (zero ∷ table) = let rest = own_pages-most table in omega (arith, rest)
own_pages-most (suc place ∷ table) = let rest = own_pages-most table in omega (arith, rest)

-- a page that is none of its own leaves room
pub own_pages-absent : (table : List ℕ) (page : ℕ) → page < length table → get_or table page 0 ≡ 0 → own_pages table < length table
own_pages-absent [] page within absent = omega (arith, within)
own_pages-absent (zero ∷ table) page within absent = let rest = own_pages-most table in omega (arith, rest)
own_pages-absent (suc place ∷ table) zero within absent = omega (arith, absent)
own_pages-absent (suc place ∷ table) (suc page) within absent =
    let rest = own_pages-absent table page (omega (arith, within)) absent in omega (arith, rest)

own_pages-set : (table : List ℕ) (page place : ℕ) → page < length table → get_or table page 0 ≡ 0
    → own_pages (set table page (suc place)) ≡ 1 + own_pages table
own_pages-set [] page place within absent = omega (arith, within)
own_pages-set (zero ∷ table) zero place within absent = refl
own_pages-set (zero ∷ table) (suc page) place within absent = own_pages-set table page place (omega (arith, within)) absent
own_pages-set (suc old ∷ table) zero place within absent = omega (arith, absent)
own_pages-set (suc old ∷ table) (suc page) place within absent =
    ap (λ n. 1 + n) (own_pages-set table page place (omega (arith, within)) absent)

module _ (table store : List ℕ) (room : ℕ) (pages : ArePages table store room) where
  -- where the words of a page lie is within the store
  pub place-within : (at : ℕ) → at / 512 < length table → get_or table (at / 512) 0 * 512 + at % 512 < length store
  place-within at within = let page = pages.within (at / 512) within in omega (arith, page)

  -- the words of a page that has no place of its own
  pub zeros-absent : (words : List ℕ) (count at other : ℕ) → words_in table store count ≡ words → count ≤ 512 * length table
      → get_or table (at / 512) 0 ≡ 0 → at ≤ other → other < (at / 512 + 1) * 512 → other < count → get_or words other 0 ≡ 0
  zeros-absent words count at other view fits absent past before within =
      let same : other / 512 ≡ at / 512 = omega (arith, past, before) in
      let low : other % 512 < 512 = omega arith in
      let unit : 0 * 512 + other % 512 ≡ other % 512 = omega arith in
      ap (λ l. get_or l other 0) (sym view)
      ∙ get_or-words_in table store count other within
      ∙ ap (λ e. get_or store (e * 512 + other % 512) 0) (ap (λ p. get_or table p 0) same ∙ absent)
      ∙ ap (λ i. get_or store i 0) unit
      ∙ pages.zeros (other % 512) low

  module _ (page place later : ℕ) (within : page < length table) (absent : get_or table page 0 ≡ 0)
      (behind : length store ≡ place * 512) (more : room ≤ later) where
    abbrev pub own : List ℕ
    own = set table page place

    own-same : get_or own page 0 ≡ place
    own-same = get_or-set_same table page place 0 within

    own-other : (other : ℕ) → other ≢ page → get_or own other 0 ≡ get_or table other 0
    own-other other differs = get_or-set_other table page other place 0 differs

    next : place ≡ suc (own_pages table)
    next = omega (arith, behind, pages.size)

    length-with_page : length (with_page store) ≡ place * 512 + 512
    length-with_page = length-append store (replicate 512 0) ∙ ap (λ n. length store + n) (length-replicate {A = ℕ} 512 0) ∙ ap (λ n. n + 512) behind

    own-within : (other : ℕ) → other < length own → get_or own other 0 * 512 + 512 ≤ length (with_page store)
    own-within other there = elim (eqb_tells other page) [
      | inl same ↦
          let is = ap (λ q. get_or own q 0) same.1 ∙ own-same in
          omega (arith, is, length-with_page)
      | inr apart ↦
          let is = own-other other apart.1 in
          let old = pages.within other (omega (arith, there, length-set table page place)) in
          omega (arith, is, old, behind, length-with_page)
    ]

    -- no other page lies behind the store
    own-apart : (first second : ℕ) → first < length own → second < length own
        → get_or own first 0 ≢ 0 → get_or own first 0 ≡ get_or own second 0 → first ≡ second
    own-apart first second there then filled equal =
        let size = length-set table page place in
        elim (eqb_tells first page) [
          | inl same ↦ elim (eqb_tells second page) [
            | inl too ↦ same.1 ∙ sym too.1
            | inr apart ↦
                let old = pages.within second (omega (arith, then, size)) in
                let is = ap (λ q. get_or own q 0) same.1 ∙ own-same in
                let stays = own-other second apart.1 in
                omega (arith, old, is, stays, equal, behind)
          ]
          | inr apart ↦ elim (eqb_tells second page) [
            | inl same ↦
                let old = pages.within first (omega (arith, there, size)) in
                let is = ap (λ q. get_or own q 0) same.1 ∙ own-same in
                let stays = own-other first apart.1 in
                omega (arith, old, is, stays, equal, behind)
            | inr too ↦
                pages.apart first second (omega (arith, there, size)) (omega (arith, then, size))
                (λ none. filled (own-other first apart.1 ∙ none))
                (sym (own-other first apart.1) ∙ equal ∙ own-other second too.1)
          ]
        ]

    pub ArePages-own : ArePages own (with_page store) later
    ArePages-own =
        let size = length-set table page place in
        let counted = ap (λ n. own_pages (set table page n)) next ∙ own_pages-set table page (own_pages table) within absent in
        record {
          few = omega (arith, size, pages.few);
          within = own-within;
          zeros = λ at low. get_or-append store (replicate 512 0) 0 at (omega (arith, low, pages.size)) ∙ pages.zeros at low;
          apart = own-apart;
          size = omega (arith, length-with_page, next, counted);
          reserved = omega (arith, size, pages.reserved, more);
        }

    word_in-own : (at : ℕ) → at / 512 < length table → word_in own (with_page store) at ≡ word_in table store at
    word_in-own at there = elim (eqb_tells (at / 512) page) [
      | inl same ↦
          let low : at % 512 < 512 = omega arith in
          ap (λ e. get_or (with_page store) (e * 512 + at % 512) 0) (ap (λ q. get_or own q 0) same.1 ∙ own-same)
          ∙ get_or-append_right store (replicate 512 0) (place * 512 + at % 512) 0 (omega (arith, behind))
          ∙ get_or-replicate 512 (place * 512 + at % 512 - length store) 0 0 (omega (arith, behind))
          ∙ sym (ap (λ i. get_or store i 0) (omega arith) ∙ pages.zeros (at % 512) low)
          ∙ ap (λ e. get_or store (e * 512 + at % 512) 0) (sym (ap (λ q. get_or table q 0) same.1 ∙ absent))
      | inr apart ↦
          ap (λ e. get_or (with_page store) (e * 512 + at % 512) 0) (own-other (at / 512) apart.1)
          ∙ get_or-append store (replicate 512 0) 0 (get_or table (at / 512) 0 * 512 + at % 512) (place-within at there)
    ]

    -- a page's own place holds what it held before
    pub words_in-own : (count : ℕ) → count ≤ 512 * length table → words_in own (with_page store) count ≡ words_in table store count
    words_in-own count fits = words_in-same own (with_page store) table store count (λ at low. word_in-own at (omega (arith, low, fits)))

  -- a word put into a page that has its own place
  module _ (at word : ℕ) (within : at / 512 < length table) (own : get_or table (at / 512) 0 ≢ 0) where
    abbrev pub place : ℕ
    place = get_or table (at / 512) 0 * 512 + at % 512

    beyond : (other : ℕ) → other < 512 → other ≢ place
    beyond other low same = own (omega (arith, low, same))

    pub ArePages-set : ArePages table (set store place word) room
    ArePages-set =
        let size = length-set store place word in
        record {
          few = pages.few;
          within = λ page there. let old = pages.within page there in omega (arith, old, size);
          zeros = λ other low. get_or-set_other store place other word 0 (beyond other low) ∙ pages.zeros other low;
          apart = pages.apart;
          size = size ∙ pages.size;
          reserved = pages.reserved;
        }

    place-apart : (other : ℕ) → other / 512 < length table → other ≢ at
        → get_or table (other / 512) 0 * 512 + other % 512 ≢ place
    place-apart other there differs same =
        let entries : get_or table (at / 512) 0 ≡ get_or table (other / 512) 0 = omega (arith, same) in
        let page = pages.apart (at / 512) (other / 512) within there own entries in
        differs (omega (arith, same, page))

    pub words_in-set : (count : ℕ) → count ≤ 512 * length table → at < count
        → words_in table (set store place word) count ≡ set (words_in table store count) at word
    words_in-set count fits low =
        let put = set store place word in
        let words = words_in table store count in
        let size = length-words_in table store count in
        sym (fill_by_all (word_in table put) (set words at word) count 0 (length-set words at word ∙ size)
        (λ k here. elim (eqb_tells k at) [
          | inl same ↦
              ap (λ i. get_or (set words at word) i 0) same.1
              ∙ get_or-set_same words at word 0 (omega (arith, low, size))
              ∙ sym (ap (word_in table put) same.1 ∙ get_or-set_same store place word 0 (place-within at within))
          | inr apart ↦
              get_or-set_other words at k word 0 apart.1
              ∙ get_or-words_in table store count k here
              ∙ sym (get_or-set_other store place (get_or table (k / 512) 0 * 512 + k % 512) word 0
              (place-apart k (omega (arith, here, fits)) apart.1))
        ]))

unit-place : (n : ℕ) → 0 * 512 + n ≡ n
unit-place n = omega arith

take-nil : (n : ℕ) → take {A = ℕ} n [] ≡ []
take-nil zero = refl
take-nil (suc n) = refl

-- as pages are made, all are at the first page of the store
module _ (size : ℕ) where
  first-entry : (page : ℕ) → page < size → ◌≡◌ {A = ℕ} (get_or (replicate size 0) page 0) 0
  first-entry page low = get_or-replicate size page 0 0 low

  own_pages-replicate : (n : ℕ) → own_pages (replicate n 0) ≡ 0
  own_pages-replicate zero = refl
  own_pages-replicate (suc n) = own_pages-replicate n

  pub ArePages-zeros : (room : ℕ) → size < 2 ^ 32 → 512 * (1 + size) ≤ room → ArePages (replicate size 0) (replicate 512 0) room
  ArePages-zeros room few reserved =
      let long = length-replicate {A = ℕ} size 0 in
      let one = length-replicate {A = ℕ} 512 0 in
      let none = own_pages-replicate size in
      record {
        few = omega (arith, long, few);
        within = λ page there. let is = first-entry page (omega (arith, there, long)) in omega (arith, is, one);
        zeros = λ at low. get_or-replicate 512 at 0 0 low;
        apart = λ page other there then filled same. omega (arith, filled (first-entry page (omega (arith, there, long))));
        size = omega (arith, one, none);
        reserved = omega (arith, long, reserved);
      }

  zero-word : (at : ℕ) → at / 512 < size → ◌≡◌ {A = ℕ} (word_in (replicate {A = ℕ} size 0) (replicate {A = ℕ} 512 0) at) 0
  zero-word at there =
      let low : at % 512 < 512 = omega arith in
      ap (λ e. get_or (replicate {A = ℕ} 512 0) (e * 512 + at % 512) 0) (first-entry (at / 512) there)
      ∙ ap (λ i. get_or (replicate {A = ℕ} 512 0) i 0) (unit-place (at % 512))
      ∙ get_or-replicate {A = ℕ} 512 (at % 512) 0 0 low

  pub words_in-zeros : (count : ℕ) → count ≤ 512 * size → words_in (replicate size 0) (replicate 512 0) count ≡ replicate count 0
  words_in-zeros count fits =
      let word : ℕ → ℕ = word_in (replicate size 0) (replicate 512 0) in
      sym (fill_by_all word (replicate count 0) count 0 (length-replicate {A = ℕ} count 0)
      (λ k here.
      get_or-replicate {A = ℕ} count k 0 0 here
      ∙ sym (zero-word k (omega (arith, here, fits)))))

-- a list of pages that is so long has the page of each position
pub page-within : (words table : List ℕ) (count at : ℕ) → length words ≡ count → count ≤ 512 * length table → at < length words → at / 512 < length table
page-within words table count at size fits low = omega (arith, size, fits, low)

-- where a position lies in the store, as the table was read
pub place-read : (table : List ℕ) (at entry : ℕ) → at / 512 < length table → entry ≡ get_or table (at / 512) entry
    → entry * 512 + at % 512 ≡ get_or table (at / 512) 0 * 512 + at % 512
place-read table at entry within is = ap (λ e. e * 512 + at % 512) (is ∙ get_or_default_zero table (at / 512) entry within)

-- an empty list, filled with zeros
pub filled : (size len : ℕ) (empty new : List ℕ) → empty ≡ [] → len ≡ 0 → new ≡ take size empty ++ replicate (size - len) 0 → new ≡ replicate size 0
filled size len empty new none nothing is =
    is ∙ ap (λ l. take size l ++ replicate (size - len) 0) none
    ∙ ap (λ l. l ++ replicate (size - len) 0) (take-nil size)
    ∙ ap (λ n. replicate (size - n) 0) nothing
    ∙ ap (λ n. replicate n 0) (omega arith)

-- a list, filled up with a page of zeros
pub filled-page : (room len : ℕ) (old new : List ℕ) → length old ≡ len → room ≡ len
    → new ≡ take (room + 512) old ++ replicate (room + 512 - len) 0 → new ≡ with_page old
filled-page room len old new size same is =
    let count : room + 512 - len ≡ 512 = omega (arith, same) in
    is
    ∙ ap (λ l. l ++ replicate (room + 512 - len) 0) (take_all (room + 512) old (omega (arith, size, same)))
    ∙ ap (λ n. old ++ replicate n 0) count
