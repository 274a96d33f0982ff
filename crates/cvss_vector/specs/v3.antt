pub mod Complete
pub mod Vector
pub mod VectorWeights
pub mod private
