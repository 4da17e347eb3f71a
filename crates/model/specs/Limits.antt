-- The numbers of 01's table of units and ranges, and the factor between its two units of power. The board's four are named in
-- the code by the board record; `Board::new` says that they are these. Assumes nothing.
use Rattle.std.specs.Prelude.{ℕ}

-- islands V, cores Q: "1 to 8 each, so at most 64 places"
abbrev pub most-islands : ℕ
most-islands = 8

abbrev pub most-cores : ℕ
most-cores = 8

abbrev pub most-places : ℕ
most-places = 64

-- levels K: "1 to 32"
abbrev pub most-levels : ℕ
most-levels = 32

-- level frequency f: "1000 to 4000000", in kHz
abbrev pub least-frequency : ℕ
least-frequency = 1000

abbrev pub most-frequency : ℕ
most-frequency = 4000000

-- level power p, one core running: "1 to 10000000", in microwatts
abbrev pub least-power : ℕ
least-power = 1

abbrev pub most-power : ℕ
most-power = 10000000

-- island power: "0 to 1000000000", in microwatts
abbrev pub most-island-power : ℕ
most-island-power = 1000000000

-- "One microwatt is 1000000 picowatts"; "the cost of a level is p times 1000000, divided by f"
abbrev pub million : ℕ
million = 1000000
