-- Scripts in which something fails in the middle of a write, by the lines of each. A count of verbs says where.
use Rattle.std.specs.Prelude.{ℕ, ◌==◌, if◌then◌else◌, List, [], ◌∷◌, ◌++◌, codes, decimal, flat_map, replicate}

-- lines as a text, each with a line feed at its end
abbrev pub text_of : List (List ℕ) → List ℕ
text_of lines = flat_map (λ line. line ++ codes "\n") lines

-- a pool of three nodes, with so many clients, in which the key a has a value
abbrev pub opening : ℕ → List (List ℕ)
opening clients =
    (codes "shape 3 3 1 2 1 " ++ decimal clients ++ codes " 10")
    ∷ replicate clients (codes "register")
    ++ codes "put 1 a 0" ∷ []

-- the writer stops
abbrev pub stop : ℕ → List (List ℕ)
stop verbs =
    codes "call 1 put a 1"
    ∷ (codes "step 1 " ++ decimal verbs)
    ∷ codes "stop 1"
    ∷ codes "put 2 a 2"
    ∷ codes "recover 1"
    ∷ codes "go 2"
    ∷ codes "get 2 a"
    ∷ []

-- a node is lost
abbrev pub loss : ℕ → List (List ℕ)
loss verbs =
    codes "call 1 put a 1"
    ∷ (codes "step 1 " ++ decimal verbs)
    ∷ codes "lose 1"
    ∷ codes "go 1"
    ∷ codes "settle"
    ∷ codes "go 1"
    ∷ codes "settle"
    ∷ codes "go 1"
    ∷ codes "get 2 a"
    ∷ []

-- the writer stops and a node is lost
abbrev pub stop_and_loss : ℕ → List (List ℕ)
stop_and_loss verbs =
    codes "call 1 put a 1"
    ∷ (codes "step 1 " ++ decimal verbs)
    ∷ codes "stop 1"
    ∷ codes "lose 1"
    ∷ codes "call 2 put a 2"
    ∷ codes "go 2"
    ∷ codes "settle"
    ∷ codes "go 2"
    ∷ codes "settle"
    ∷ codes "go 2"
    ∷ codes "recover 1"
    ∷ codes "get 2 a"
    ∷ []

-- two writers of one key stop
abbrev pub two_stops : ℕ → ℕ → List (List ℕ)
two_stops verbs other_verbs =
    codes "call 1 put a 1"
    ∷ (codes "step 1 " ++ decimal verbs)
    ∷ codes "call 2 put a 2"
    ∷ (codes "step 2 " ++ decimal other_verbs)
    ∷ codes "stop 1"
    ∷ codes "stop 2"
    ∷ codes "recover 2"
    ∷ codes "recover 1"
    ∷ codes "recover 2"
    ∷ codes "recover 1"
    ∷ codes "get 3 a"
    ∷ []

-- a second node is lost while the master copies what the first one had
abbrev pub loss_while_copying : ℕ → List (List ℕ)
loss_while_copying verbs =
    codes "put 1 a 1"
    ∷ codes "lose 1"
    ∷ codes "task settle"
    ∷ (codes "work " ++ decimal verbs)
    ∷ codes "lose 2"
    ∷ codes "settle"
    ∷ codes "get 1 a"
    ∷ []

-- a node is lost, and the writer's next verb is carried out on it all the same
abbrev pub late_verb : ℕ → List (List ℕ)
late_verb verbs =
    codes "call 1 put a 1"
    ∷ (codes "step 1 " ++ decimal verbs)
    ∷ codes "lose 1"
    ∷ codes "late 1"
    ∷ codes "go 1"
    ∷ codes "settle"
    ∷ codes "go 1"
    ∷ codes "settle"
    ∷ codes "go 1"
    ∷ codes "get 2 a"
    ∷ []

-- what fails, by the number of its kind from 0 to 5
abbrev pub faults_of : ℕ → ℕ → ℕ → List (List ℕ)
faults_of kind first second =
    if kind == 0 then stop first
    else if kind == 1 then loss first
    else if kind == 2 then stop_and_loss first
    else if kind == 3 then two_stops first second
    else if kind == 4 then loss_while_copying first
    else late_verb first

-- two stopped writers leave a third client to read
abbrev pub clients_of : ℕ → ℕ
clients_of kind = if kind == 3 then 3 else 2

-- the script of a kind
abbrev pub fault_script : ℕ → ℕ → ℕ → List ℕ
fault_script kind first second = text_of (opening (clients_of kind) ++ faults_of kind first second ++ codes "count" ∷ [])
