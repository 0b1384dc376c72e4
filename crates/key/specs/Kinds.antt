-- The bits and the own order of each kind of key, and the key that some bits are those of.
--
--   zone_bits, station_bits, moment_bits, name_bits           a key's bits
--   zone_of, station_of, moment_of, name_of                   the key of some bits, if there is one
--   zone_before, station_before, moment_before, name_before   the kind's own order
--   zone_at, station_at, moment_at, name_at                   the same, taking the number modulo 2^w
--   within                                                    a key for each number below a bound
use Rattle.std.specs.Prelude.{ℕ, ◌+◌, ◌*◌, ◌/◌, ◌%◌, ◌^◌, Bool, cond, Some, None, Option, nat_lt, refl}
use Rattle.std.proofs.Common.{arith}
use Rattle.std.specs.Int.Digits.{number_from_digits}
use Rattle.digits.specs.Parts.{first_then, byte_by_byte, seven, seven_fits}
use Rattle.key.specs.declared.kinds.Zone.{Zone}
use Rattle.key.specs.declared.kinds.Station.{Station}
use Rattle.key.specs.declared.kinds.Moment.{Moment}
use Rattle.key.specs.declared.kinds.Name.{Name}

abbrev pub within : {K : Type 0} → ℕ → (ℕ → K) → ℕ → Option K
within bound at n = cond (nat_lt n bound) (Some (at n)) None

-- ---- zones: the number across the blade
abbrev pub zone_bits : Zone → ℕ
zone_bits z = z.number

abbrev pub zone_at : ℕ → Zone
zone_at n = record { number = n % 2 ^ 8; fits = omega arith }

abbrev pub zone_of : ℕ → Option Zone
zone_of n = within (2 ^ 8) zone_at n

abbrev pub zone_before : Zone → Zone → Bool
zone_before a b = nat_lt a.number b.number

-- ---- stations: by piste, then by decimetre
abbrev pub station_bits : Station → ℕ
station_bits s = s.piste * 2 ^ 24 + s.decimetre

abbrev pub station_at : ℕ → Station
station_at n = record { piste = n / 2 ^ 24 % 2 ^ 8; decimetre = n % 2 ^ 24; fits = (omega arith, omega arith) }

abbrev pub station_of : ℕ → Option Station
station_of n = within (2 ^ 32) station_at n

abbrev pub station_before : Station → Station → Bool
station_before a b = first_then a.piste a.decimetre b.piste b.decimetre

-- ---- moments: by second, then by sequence
abbrev pub moment_bits : Moment → ℕ
moment_bits t = t.second * 2 ^ 16 + t.sequence

abbrev pub moment_at : ℕ → Moment
moment_at n = record { second = n / 2 ^ 16 % 2 ^ 32; sequence = n % 2 ^ 16; fits = (omega arith, omega arith) }

abbrev pub moment_of : ℕ → Option Moment
moment_of n = within (2 ^ 48) moment_at n

abbrev pub moment_before : Moment → Moment → Bool
moment_before a b = first_then a.second a.sequence b.second b.sequence

-- ---- names: seven bytes, the first one highest
abbrev pub name_bits : Name → ℕ
name_bits n = number_from_digits 256 n.bytes

abbrev pub name_at : ℕ → Name
name_at n = record { bytes = seven n; long = refl; fits = seven_fits n }

abbrev pub name_of : ℕ → Option Name
name_of n = within (2 ^ 56) name_at n

abbrev pub name_before : Name → Name → Bool
name_before a b = byte_by_byte a.bytes b.bytes
