pub mod BaseMetrics
pub mod Modified
pub mod Table
pub mod private
