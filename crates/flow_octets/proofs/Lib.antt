pub mod FlowOctets
pub mod Back
