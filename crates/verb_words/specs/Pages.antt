-- Words in pages of 512: for each page a table tells at which page of a store its words are.
use Rattle.std.specs.Prelude.{◌≡◌, ◌≢◌, ℕ, zero, suc, ◌+◌, ◌*◌, ◌/◌, ◌%◌, ◌<◌, ◌≤◌, ◌^◌, List, [], ◌∷◌, ◌++◌, map, length, replicate, slice_index}
use Rattle.std.specs.List.{range_with_len}

-- the word at a position
abbrev pub word_in : List ℕ → List ℕ → ℕ → ℕ
word_in table store at = slice_index store (slice_index table (at / 512) * 512 + at % 512)

-- the first words, as many as are asked for
abbrev pub words_in : List ℕ → List ℕ → ℕ → List ℕ
words_in table store count = map (word_in table store) (range_with_len 0 count)

-- the store, with a page of zeros behind
abbrev pub with_page : List ℕ → List ℕ
with_page store = store ++ replicate 512 0

-- how many pages have a page of the store of their own
abbrev pub own_pages : List ℕ → ℕ
own_pages [] = 0
own_pages (zero ∷ table) = own_pages table
own_pages (suc place ∷ table) = 1 + own_pages table

-- the table leads into the store; the first page of the store is all zeros, each other is of one page alone; and there is room for all
pub record ArePages (table store : List ℕ) (room : ℕ) : Type 0 where
  pub few : length table < 2 ^ 32
  pub within : (page : ℕ) → page < length table → slice_index table page * 512 + 512 ≤ length store
  pub zeros : (at : ℕ) → at < 512 → slice_index store at ≡ 0
  pub apart : (page other : ℕ) → page < length table → other < length table
      → slice_index table page ≢ 0 → slice_index table page ≡ slice_index table other → page ≡ other
  pub size : length store ≡ 512 * (1 + own_pages table)
  pub reserved : 512 * (1 + length table) ≤ room
