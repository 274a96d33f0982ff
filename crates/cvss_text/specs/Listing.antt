-- The metrics that a vector has, as a list, and what an iterator over them has still to give.
use Rattle.std.specs.Prelude.{ℕ, List, option_map, drop}
use Rattle.std.specs.List.{filter_map}
use Rattle.std.specs.Borrow.{Bor}
use Rattle.cvss_text.specs.declared.metrics.Metrics.{Metrics}
use Rattle.cvss_base.specs.Version.{Version, held}

-- those of these metrics that the vector has, in their order, each with the spelling of its value
abbrev pub listed_metrics : {V K : Type 0} → Version V K → V → List K → List (K × List ℕ)
listed_metrics version v kinds = filter_map (λ kind. option_map (λ spelling. (kind, spelling)) (held version v kind)) kinds

-- the metrics that are left
abbrev pub metrics_left : {V K : Type 0} → Version V K → List K → Metrics V K → List (K × List ℕ)
metrics_left version order metrics = listed_metrics version metrics.vector (drop metrics.place order)

-- an item, by the text after its reference
abbrev pub as_listed : {K : Type 0} → K × Bor (List ℕ) → K × List ℕ
as_listed item = (item.0, item.1.now)
