-- `wide::Wide::divided` meets its contract: d goes fewer than 2^64 times into the number, so the quotient has room.
use Rattle.std.proofs.Common.{◌+◌, ◌^◌, ◌<◌, lt_of_mul-lt-mul_right, add-mul, arith}
use Rattle.wide.specs.Value.{base, value}
use Rattle.wide.proofs.Wide.divided.Goals as goal

pub overflow_add-quotient : goal.overflow_add-quotient
unfolding base
overflow_add-quotient c =
    let d = value c.args.d in
    let q = c.loop-d.quotient in
    let p = c.taken_off-next.result.quotient in
    let few : q + p < 2 ^ 64 = lt_of_mul-lt-mul_right d (omega (arith, add-mul q p d)) in
    record { fits = few }
