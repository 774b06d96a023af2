-- A turn of an actor: what an answer makes of its state, and what the turn tells.

pub record Turn (State Told : Type 0) : Type 0 where
  pub state : State
  pub told : Told
