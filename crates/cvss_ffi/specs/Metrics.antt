-- The metrics of a vector as C sees them.
use Rattle.std.specs.Prelude.{ℕ, List, [], ◌∷◌, take, flat_map, option_map}
use Rattle.std.specs.Option.{option_to_list}
use Rattle.cvss_base.specs.Version.{Version, held}
use Rattle.cvss_vector.specs.v2.Vector.{v2}
use Rattle.cvss_vector.specs.v3.Vector.{v3}
use Rattle.cvss_vector.specs.v4.Vector.{v4}
use Rattle.cvss_vector.specs.declared.vector.Cvss.{Cvss}
use Rattle.cvss_vector.specs.declared.vector.Cvss.TheVariants.{CvssV20, CvssV30, CvssV31, CvssV40}
use Rattle.cvss_ffi.specs.Buffer.{begun}
use Rattle.cvss_ffi.specs.declared.metrics.CvssMetric.{CvssMetric}

-- the first bytes of a text in eight bytes, with bytes 0 after them
abbrev pub padded : List ℕ → List ℕ
padded text = begun (take 8 text) (0 ∷ 0 ∷ 0 ∷ 0 ∷ 0 ∷ 0 ∷ 0 ∷ 0 ∷ [])

-- a metric's abbreviation, and the spelling of its value
abbrev pub metric_of : List ℕ → List ℕ → CvssMetric
metric_of name value = record { name = padded name; value = padded value }

-- the metrics of these types that a vector has
abbrev pub metrics_at : {V K : Type 0} → Version V K → V → List K → List CvssMetric
metrics_at version v kinds =
    flat_map (λ kind. option_to_list (option_map (λ value. metric_of (version.name kind) value) (held version v kind))) kinds

-- the metrics that a vector has, in the order of its canonical text
abbrev pub metrics_in_order : Cvss → List CvssMetric
metrics_in_order (CvssV20 vector) = metrics_at v2 vector v2.printed
metrics_in_order (CvssV30 vector) = metrics_at v3 vector v3.printed
metrics_in_order (CvssV31 vector) = metrics_at v3 vector v3.printed
metrics_in_order (CvssV40 vector) = metrics_at v4 vector v4.printed
