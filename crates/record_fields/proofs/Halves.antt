-- A wide field is its two words, the low one first: byte by byte.
use mathlib.Core.Path.{◌≡◌}
use Prim.Native.Nat.{ℕ, ◌/◌, ◌%◌}
use native.Mathlib.Omega.{arith}

pub low_low : (v : ℕ) → v % 65536 % 256 ≡ v % 256
low_low v = omega arith

pub low_high : (v : ℕ) → v % 65536 / 256 % 256 ≡ v / 256 % 256
low_high v = omega arith

pub high_low : (v : ℕ) → v / 65536 % 256 ≡ v / 256 / 256 % 256
high_low v = omega arith

pub high_high : (v : ℕ) → v / 65536 / 256 % 256 ≡ v / 256 / 256 / 256 % 256
high_high v = omega arith

pub ruleset halves = (low_low, low_high, high_low, high_high)
