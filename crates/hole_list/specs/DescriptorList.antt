-- The descriptors of a hole list, one after the other.
-- Assumes nothing.
use Rattle.std.specs.Prelude.{ℕ, zero, suc, ◌+◌, List}
use Rattle.refusals.specs.Refusals.{◌▹◌}
use Rattle.header.specs.Descriptor.{descriptor_refusal}

-- the refusal of n descriptors of d octets, one after the other from the place `at` on: the first that is refused
unfoldable pub descriptors_refusal : ℕ → ℕ → ℕ → List ℕ → ℕ
descriptors_refusal d zero at s = 0
descriptors_refusal d (suc n) at s = descriptor_refusal d at s ▹ descriptors_refusal d n (at + d) s
