-- Records of 32 bytes.
--
--   headed   a code and seven zero bytes
--   wire     the 32 bytes of a record
--   Within   a record's fields hold numbers of 8 and of 64 bits
use Rattle.std.specs.Prelude.{ℕ, ◌^◌, ◌<◌, List, [], ◌∷◌, ◌++◌}
use Rattle.wire.specs.declared.record.Record.{Record}
use Rattle.wire.specs.Eights.{eight}

abbrev pub headed : ℕ → List ℕ
headed c = c ∷ 0 ∷ 0 ∷ 0 ∷ 0 ∷ 0 ∷ 0 ∷ 0 ∷ []

abbrev pub wire : Record → List ℕ
wire x = headed x.code ++ (eight x.first ++ (eight x.second ++ eight x.note))

pub record Within (x : Record) : Type 0 where
  pub code : x.code < 2 ^ 8
  pub first : x.first < 2 ^ 64
  pub second : x.second < 2 ^ 64
  pub note : x.note < 2 ^ 64
