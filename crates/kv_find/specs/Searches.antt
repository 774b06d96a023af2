-- A search of the program as one of the machine.
use Rattle.std.specs.Prelude.{ℕ, List}
use Rattle.kv_find.specs.declared.search.Phase.{Phase}
use Rattle.kv_find.specs.declared.search.Phase.TheVariants.{AtSlot, AtKey}
use Rattle.machine.specs.KeySearch as machine
use Rattle.machine.specs.KeySearch.{KeySearch}
use Rattle.machine.specs.KeyTest.{KeyTest}

abbrev pub phase_of : KeyTest → Phase → machine.Phase
phase_of key_test AtSlot = machine.AtSlot
phase_of key_test (AtKey word) = machine.AtKey word key_test

-- the test at hand, be it under way or not, has the view and the key of the search
abbrev pub search_of : KeyTest → List ℕ → ℕ → Phase → KeySearch
search_of key_test order place phase =
    record { view = key_test.view; key = key_test.key; order = order; place = place; phase = phase_of key_test phase }
