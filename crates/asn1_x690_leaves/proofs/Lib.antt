pub mod SpanSteps
pub mod IntegerSteps
pub mod BitStringSteps
