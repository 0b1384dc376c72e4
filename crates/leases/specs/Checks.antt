-- What is wrong with a command's keys, before any frame.
--
--   unfit   the two ends of a lease: one is too large, the first is above the second, or they lie on two pistes
--   early   the refusal that a command's keys give; names have 56 bits, stations 32, moments 48
use Rattle.std.specs.Prelude.{ℕ, ◌/◌, ◌^◌, cond, ◌||◌, Some, None, Option, ◌==◌, nat_le, nat_lt}
use Rattle.ordered.specs.declared.refusal.Refusal.{Refusal}
use Rattle.ordered.specs.declared.refusal.Refusal.TheVariants.{TooLarge, Order, Piste}
use Rattle.ordered.specs.Sorted.{large}
use Rattle.wire.specs.declared.command.Command.{Command}
use Rattle.wire.specs.declared.command.Command.TheVariants.{AddName, RemoveName, FindName, NextName, Lease, Release, Who, AddEvent, RemoveEvent, Due}

unfoldable pub unfit : ℕ → ℕ → Option Refusal
unfit f t =
    cond (nat_le (2 ^ 32) f || nat_le (2 ^ 32) t) (Some TooLarge)
    (cond (nat_lt t f) (Some Order) (cond (f / 2 ^ 24 == t / 2 ^ 24) None (Some Piste)))

abbrev pub early : Command → Option Refusal
early (AddName k n) = large 56 k
early (RemoveName k) = large 56 k
early (FindName k) = large 56 k
early (NextName k) = large 56 k
early (Lease f t h) = unfit f t
early (Release f h) = large 32 f
early (Who s) = large 32 s
early (AddEvent k n) = large 48 k
early (RemoveEvent k) = large 48 k
early (Due m) = large 48 m
