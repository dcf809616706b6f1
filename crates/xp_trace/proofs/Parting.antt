-- A text around its first comma.
use Rattle.std.proofs.Common.{ℕ, List, Option, None, Some, Bor, option_map, arith}
use Rattle.std.proofs.lemmas.Str.Pattern.{IsSplitOnceResult, split_parts}
use Rattle.xp_trace.specs.Names.{comma}
use Rattle.xp_trace.specs.steps.Naming.{IsParted}

pub parted_once : (text : List ℕ) (parts : Option (Bor (List ℕ) × Bor (List ℕ))) → IsSplitOnceResult comma text parts → IsParted text (option_map (λ parts. (parts.0.now, parts.1.now)) parts)
parted_once text None split = split_parts comma text None split (omega arith)
parted_once text (Some parts) split = split_parts comma text (Some parts) split (omega arith)
