-- Packing a pair into one entry and taking it out again: F × 65536 + C, for C below 65536.
-- Assumes nothing.
use Rattle.std.proofs.Common.{◌≡◌, ℕ, ◌^◌, ◌<◌, ◌≤◌, div-add-mod', arith, pow_mono}
use lib.Arith.{digits_div, digits_mod}
use Rattle.network.specs.Lists.{pack, first_of, second_of}

pub first_pack : (F C : ℕ) → C < 2 ^ 16 → first_of (pack F C) ≡ F
unfolding first_of pack
first_pack F C h = digits_div F h

pub second_pack : (F C : ℕ) → C < 2 ^ 16 → second_of (pack F C) ≡ C
unfolding second_of pack
second_pack F C h = digits_mod F h

pub pack_unpack : (x : ℕ) → pack (first_of x) (second_of x) ≡ x
unfolding pack first_of second_of
pack_unpack x = div-add-mod' x 65536

-- a set of n events fits an entry's half, for n up to 16
pub fits_half : (n s : ℕ) → n ≤ 16 → s < 2 ^ n → s < 2 ^ 16
fits_half n s l h = omega (arith, pow_mono l)
