-- Lists of clients that are waited for, each with the begin word at which it was seen.
use Rattle.std.specs.Prelude.{◌≡◌, ℕ, ◌%◌, ◌<◌, ◌≤◌, Bool, not, ◌==◌, ◌||◌, if◌then◌else◌, List, [], ◌∷◌, ◌++◌, filter, All, AllPairs}
use Rattle.reuse_epoch.specs.declared.grace.TheConstants.{MOST_CLIENTS}

-- a client that is waited for, and its begin word
abbrev pub Awaited : Type 0
Awaited = ℕ × ℕ

abbrev pub client_of : Awaited → ℕ
client_of one = one.0

abbrev pub begin_of : Awaited → ℕ
begin_of one = one.1

-- the number of a client
abbrev pub IsClient : ℕ → Type 0
IsClient client = (0 < client) × (client ≤ MOST_CLIENTS)

-- clients rise from the first to the last, and each begin word is odd
pub record IsAwaited (list : List Awaited) : Type 0 where
  pub rising : AllPairs (λ one later. client_of one < client_of later) list
  pub clients : All (λ one. IsClient (client_of one)) list
  pub odd : All (λ one. begin_of one % 2 ≡ 1) list

-- the list once a client was noted at a begin word: it comes last where the word is odd
abbrev pub noted : List Awaited → ℕ → ℕ → List Awaited
noted list client begin = if begin % 2 == 1 then list ++ (client, begin) ∷ [] else list

-- another client, or this one at the same begin word
abbrev pub is_still_awaited : ℕ → ℕ → Awaited → Bool
is_still_awaited client begin one = not (client_of one == client) || (begin_of one == begin)

-- the list once a client was seen at a begin word: it goes where the word is another one
abbrev pub still_awaited : List Awaited → ℕ → ℕ → List Awaited
still_awaited list client begin = filter (is_still_awaited client begin) list
