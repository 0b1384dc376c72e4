-- The keys of each kind and their numbers lead to each other. Keys with equal parts are equal, since a
-- bound has one proof at most.
use Rattle.std.specs.Prelude.{◌≡◌, ℕ, ◌^◌, ◌<◌, length, slice_index}
use Rattle.std.proofs.Common.{subst, arith}
use Rattle.std.proofs.lemmas.Int.Digits.{number_lt}
use mathlib.Core.HLevel.{×_prop, Π_prop, is_prop→PathP}
use Rattle.std.proofs.Math.Bridge.{le_prop}
use Rattle.std.proofs.Math.Nat.{ℕ_set}
use Rattle.digits.proofs.Sevens.{seven_of, seven_back, bytes_under}
use Rattle.key.specs.Kinds.{zone_bits, zone_at, station_bits, station_at, moment_bits, moment_at, name_bits, name_at}
use Rattle.key.specs.Within.{Numbered}
use Rattle.key.specs.declared.kinds.Zone.{Zone}
use Rattle.key.specs.declared.kinds.Station.{Station}
use Rattle.key.specs.declared.kinds.Moment.{Moment}
use Rattle.key.specs.declared.kinds.Name.{Name}

pub zone_same : (a b : Zone) → a.number ≡ b.number → a ≡ b
zone_same a b e = λ i. record { number = e i; fits = is_prop→PathP (λ j. e j < 2 ^ 8) (λ j. le_prop) a.fits b.fits i }

pub zones : Numbered (2 ^ 8) zone_at zone_bits
zones = record { below = λ k. k.fits; back = λ n h. omega arith; same = λ k. zone_same _ _ (omega arith) }

pub station_same : (a b : Station) → a.piste ≡ b.piste → a.decimetre ≡ b.decimetre → a ≡ b
station_same a b e f = λ i. record {
  piste = e i;
  decimetre = f i;
  fits = is_prop→PathP (λ j. (e j < 2 ^ 8) × (f j < 2 ^ 24)) (λ j. ×_prop le_prop le_prop) a.fits b.fits i;
}

pub stations : Numbered (2 ^ 32) station_at station_bits
stations = record { below = λ k. omega arith; back = λ n h. omega arith; same = λ k. station_same _ _ (omega arith) (omega arith) }

pub moment_same : (a b : Moment) → a.second ≡ b.second → a.sequence ≡ b.sequence → a ≡ b
moment_same a b e f = λ i. record {
  second = e i;
  sequence = f i;
  fits = is_prop→PathP (λ j. (e j < 2 ^ 32) × (f j < 2 ^ 16)) (λ j. ×_prop le_prop le_prop) a.fits b.fits i;
}

pub moments : Numbered (2 ^ 48) moment_at moment_bits
moments = record { below = λ k. omega arith; back = λ n h. omega arith; same = λ k. moment_same _ _ (omega arith) (omega arith) }

pub name_same : (a b : Name) → a.bytes ≡ b.bytes → a ≡ b
name_same a b e = λ i. record {
  bytes = e i;
  long = is_prop→PathP (λ j. length (e j) ≡ 7) (λ j. ℕ_set _ _) a.long b.long i;
  fits = is_prop→PathP (λ j. (k : ℕ) → slice_index (e j) k < 2 ^ 8) (λ j. Π_prop (λ k. le_prop)) a.fits b.fits i;
}

pub names : Numbered (2 ^ 56) name_at name_bits
names = record {
  below = λ k. subst (λ n. name_bits k < 256 ^ n) k.long (number_lt 256 k.bytes (bytes_under k.bytes k.fits));
  back = seven_back;
  same = λ k. name_same _ _ (seven_of k.bytes k.long k.fits);
}
