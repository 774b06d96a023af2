-- The events of an object that is given back while a call runs that has met it may happen.
use Rattle.std.proofs.Common.{true, ◌++◌, refl, arith}
use Rattle.reuse_grace.specs.Stock.{opening}
use Rattle.reuse_grace.specs.Allowed.{IsAllowed}
use Rattle.reuse_grace.specs.Example.{ended, given_back}

pub IsAllowed-given_back : IsAllowed (opening 1 2 (λ object. true)) (given_back ++ ended)
IsAllowed-given_back = (
  (refl, λ client other. refl),
  (
    refl,
    (
      (omega arith, omega arith, refl),
      (
        refl,
        (
          tt,
          (
            tt,
            (
              tt,
              (
                tt,
                (
                  tt,
                  (refl, (tt, (tt, (refl, tt)))),
                ),
              ),
            ),
          ),
        ),
      ),
    ),
  ),
)
