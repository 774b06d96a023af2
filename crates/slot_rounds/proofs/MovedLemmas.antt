-- A state is sound after one writer has moved, where the slot, that writer and the others are.
use Rattle.std.proofs.Common.{◌≡◌, ◌≢◌, ℕ, ◌<◌, ◌⊎◌, length, slice_index, refl, sym, ◌∙◌, subst, inl, inr, eq-eqb, ne_eqb}
use Rattle.std.proofs.lemmas.Bool.{cases_eq}
use Rattle.slot_rounds.specs.Slot.{Slot}
use Rattle.slot_rounds.specs.Write.{Write, Writer, Idle, Writing}
use Rattle.slot_rounds.specs.Run.{State, put}
use Rattle.slot_rounds.proofs.Soundness.{IsSoundSlot, IsSoundWrite, IsSound, IsOfWrite}

-- ---- the writers, of whom one is now another

pub put_same : (writers : ℕ → Writer) (number : ℕ) (writer : Writer) → put writers number writer number ≡ writer
put_same writers number writer = rw (eq-eqb number number refl)

pub put_other : (writers : ℕ → Writer) (number : ℕ) (writer : Writer) (other : ℕ) → number ≢ other
    → put writers number writer other ≡ writers other
put_other writers number writer other apart = rw (ne_eqb number other apart)

-- a write that is under way then is that of the one who moved, or was under way before
pub writing_put : (writers : ℕ → Writer) (number : ℕ) (writer : Writer) (other : ℕ) (write : Write)
    → put writers number writer other ≡ Writing write
    → ((number ≡ other) × (writer ≡ Writing write)) ⊎ ((number ≢ other) × (writers other ≡ Writing write))
writing_put writers number writer other write is =
    elim (cases_eq number other) [
      | inl same ↦ inl (same, sym (subst (λ n. put writers number writer n ≡ writer) same (put_same writers number writer)) ∙ is)
      | inr apart ↦ inr (apart, sym (put_other writers number writer other apart) ∙ is)
    ]

-- the same write stands at one number
pub same_write : (writers : ℕ → Writer) (number other : ℕ) (write others : Write) → number ≡ other
    → writers number ≡ Writing write → writers other ≡ Writing others → write ≡ others
same_write writers number other write others same is others_is =
    let here : writers number ≡ Writing others = subst (λ n. writers n ≡ Writing others) (sym same) others_is in
    let both : Writing write ≡ Writing others = sym is ∙ here in
    cc

-- ---- whose word it is

-- a word of a write that did not move
pub IsOfWrite-put_other : (primary : ℕ) (writers : ℕ → Writer) (number : ℕ) (writer : Writer) (word : ℕ)
    → (of : IsOfWrite primary writers word) → number ≢ of.number → IsOfWrite primary (put writers number writer) word
IsOfWrite-put_other primary writers number writer word of apart =
    record {
      number = of.number;
      write = of.write;
      writes = put_other writers number writer of.number apart ∙ of.writes;
      round = of.round;
      fresh = of.fresh;
    }

-- a write keeps its two words
pub record KeepsWords (write later : Write) : Type 0 where
  pub fresh : later.fresh ≡ write.fresh
  pub expected : later.expected ≡ write.expected

-- a word stays that of the write that moved, if it keeps its two words
pub IsOfWrite-put : (primary : ℕ) (writers : ℕ → Writer) (number : ℕ) (write later : Write) (word : ℕ)
    → writers number ≡ Writing write → KeepsWords write later
    → IsOfWrite primary writers word → IsOfWrite primary (put writers number (Writing later)) word
IsOfWrite-put primary writers number write later word is keeps of =
    elim (cases_eq number of.number) [
      | inl same ↦
          let one : write ≡ of.write = same_write writers number of.number write of.write same is of.writes in
          record {
            number = number;
            write = later;
            writes = put_same writers number (Writing later);
            round = keeps.expected ∙ subst (λ (w : Write). w.expected ≡ primary) (sym one) of.round;
            fresh = keeps.fresh ∙ subst (λ (w : Write). w.fresh ≡ word) (sym one) of.fresh;
          }
      | inr apart ↦ IsOfWrite-put_other primary writers number (Writing later) word of apart
    ]

-- ---- one writer moves, and with it the slot

-- what is to be shown
pub record IsMove (state : State) (number : ℕ) (writer : Writer) (slot : Slot) : Type 0 where
  pub slot_sound : IsSoundSlot slot
  pub whose : (place : ℕ) → place < length slot.firsts → slice_index slot.firsts place ≢ slot.primary
      → IsOfWrite slot.primary (put state.writers number writer) (slice_index slot.firsts place)
  pub others : (other : ℕ) (write : Write) → number ≢ other → state.writers other ≡ Writing write → IsSoundWrite slot write
  pub own : (write : Write) → writer ≡ Writing write → IsSoundWrite slot write
  pub apart : (write : Write) → writer ≡ Writing write → (other : ℕ) (others : Write) → number ≢ other
      → state.writers other ≡ Writing others → write.fresh ≢ others.fresh
  pub own_unexpected : (write : Write) → writer ≡ Writing write → write.fresh ≢ write.expected
  pub unexpected : (write : Write) → writer ≡ Writing write → (other : ℕ) (others : Write) → number ≢ other
      → state.writers other ≡ Writing others → (write.fresh ≢ others.expected) × (others.fresh ≢ write.expected)

pub moved : (state : State) (number : ℕ) (writer : Writer) (slot : Slot) → IsSound state → IsMove state number writer slot
    → IsSound (record { slot = slot; writers = put state.writers number writer })
moved state number writer slot sound move =
    record {
      slot_sound = move.slot_sound;
      whose = move.whose;
      each = λ other write is.
          elim (writing_put state.writers number writer other write is) [
            | inl here ↦ move.own write here.1
            | inr there ↦ move.others other write there.0 there.1
          ];
      apart = λ one other write others apart is others_is.
          elim (writing_put state.writers number writer one write is) [
            | inl here ↦
                elim (writing_put state.writers number writer other others others_is) [
                  | inl both ↦ absurd (apart (sym here.0 ∙ both.0))
                  | inr there ↦ move.apart write here.1 other others there.0 there.1
                ]
            | inr there ↦
                elim (writing_put state.writers number writer other others others_is) [
                  | inl here ↦ λ same. move.apart others here.1 one write there.0 there.1 (sym same)
                  | inr both ↦ sound.apart one other write others apart there.1 both.1
                ]
          ];
      unexpected = λ one other write others is others_is.
          elim (writing_put state.writers number writer one write is) [
            | inl here ↦
                elim (writing_put state.writers number writer other others others_is) [
                  | inl both ↦
                      let writes : Writing write ≡ Writing others = sym here.1 ∙ both.1 in
                      let same : write ≡ others = cc in
                      subst (λ (w : Write). write.fresh ≢ w.expected) same (move.own_unexpected write here.1)
                  | inr there ↦ (move.unexpected write here.1 other others there.0 there.1).0
                ]
            | inr there ↦
                elim (writing_put state.writers number writer other others others_is) [
                  | inl here ↦ (move.unexpected others here.1 one write there.0 there.1).1
                  | inr both ↦ sound.unexpected one other write others there.1 both.1
                ]
          ];
    }

-- the writer goes on with the same two words
pub goes_on : (state : State) (number : ℕ) (write later : Write) (slot : Slot) → IsSound state
    → state.writers number ≡ Writing write → KeepsWords write later → IsSoundSlot slot
    → ((place : ℕ) → place < length slot.firsts → slice_index slot.firsts place ≢ slot.primary
    → IsOfWrite slot.primary (put state.writers number (Writing later)) (slice_index slot.firsts place))
    → ((other : ℕ) (others : Write) → number ≢ other → state.writers other ≡ Writing others → IsSoundWrite slot others)
    → IsSoundWrite slot later
    → IsSound (record { slot = slot; writers = put state.writers number (Writing later) })
goes_on state number write later slot sound is keeps slot_sound whose others own =
    moved state number (Writing later) slot sound
    (record {
      slot_sound = slot_sound;
      whose = whose;
      others = others;
      own = λ w writes. let same : later ≡ w = cc in subst (λ (w : Write). IsSoundWrite slot w) same own;
      apart = λ w writes other others apart others_is.
          let same : w.fresh ≡ write.fresh = rw (← fresh_of w writes) keeps.fresh in
          λ clash. sound.apart number other write others apart is others_is (sym same ∙ clash);
      own_unexpected = λ w writes clash.
          sound.unexpected number number write write is is
          (sym keeps.fresh ∙ (fresh_of w writes ∙ (clash ∙ (sym (expected_of w writes) ∙ keeps.expected))));
      unexpected = λ w writes other others apart others_is. (
        λ clash. sound.unexpected number other write others is others_is (sym keeps.fresh ∙ (fresh_of w writes ∙ clash)),
        λ clash. sound.unexpected other number others write others_is is (clash ∙ (sym (expected_of w writes) ∙ keeps.expected)),
      );
    })
  where
    fresh_of : (w : Write) → Writing later ≡ Writing w → later.fresh ≡ w.fresh
    fresh_of w writes = let same : later ≡ w = cc in subst (λ (w : Write). later.fresh ≡ w.fresh) same refl

    expected_of : (w : Write) → Writing later ≡ Writing w → later.expected ≡ w.expected
    expected_of w writes = let same : later ≡ w = cc in subst (λ (w : Write). later.expected ≡ w.expected) same refl

-- the writer is at rest then
pub comes_to_rest : (state : State) (number : ℕ) (slot : Slot) → IsSound state → IsSoundSlot slot
    → ((place : ℕ) → place < length slot.firsts → slice_index slot.firsts place ≢ slot.primary
    → IsOfWrite slot.primary (put state.writers number Idle) (slice_index slot.firsts place))
    → ((other : ℕ) (others : Write) → number ≢ other → state.writers other ≡ Writing others → IsSoundWrite slot others)
    → IsSound (record { slot = slot; writers = put state.writers number Idle })
comes_to_rest state number slot sound slot_sound whose others =
    moved state number Idle slot sound
    (record {
      slot_sound = slot_sound;
      whose = whose;
      others = others;
      own = λ w writes. absurd (idle_writes w writes);
      apart = λ w writes other others apart others_is. absurd (idle_writes w writes);
      own_unexpected = λ w writes. absurd (idle_writes w writes);
      unexpected = λ w writes other others apart others_is. absurd (idle_writes w writes);
    })
  where
    idle_writes : (w : Write) → Idle ≡ Writing w → ⊥
    idle_writes w writes = cc
