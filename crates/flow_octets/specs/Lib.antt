pub mod FlowOctets
