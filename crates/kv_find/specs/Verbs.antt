-- How many verbs a search takes.
use Rattle.std.specs.Prelude.{◌≡◌, ℕ, List, [], ◌∷◌}
use Rattle.machine.specs.declared.key_search.Found.{Found}
use Rattle.machine.specs.declared.key_search.Found.TheVariants.{Going}
use Rattle.machine.specs.KeySearch.{KeySearch, turn}
use Rattle.object_form.specs.declared.metas.Meta.{Meta}
use Rattle.object_form.specs.Content.{padded_words}
use Rattle.object_form.specs.Meta.{word_of_meta}
use Rattle.verb_words.specs.declared.verbs.Answer.TheVariants.{Word}

-- the search goes on at each of these answered words, one after the other, and tells this at the last
abbrev pub EndsWith : KeySearch → List ℕ → Found → Type 0
EndsWith search [] told = ⊥
EndsWith search (word ∷ []) told = (turn search (Word word)).told ≡ told
EndsWith search (word ∷ next ∷ words) told =
    ((turn search (Word word)).told ≡ Going) × EndsWith (turn search (Word word)).state (next ∷ words) told

-- a slot's word, the meta word of the object that it names, and the words of the key
abbrev pub words_with_key : List ℕ → ℕ → Meta → List ℕ
words_with_key key word meta = word ∷ word_of_meta meta ∷ padded_words key
